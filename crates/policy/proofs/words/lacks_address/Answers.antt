-- `words::lacks_address` meets its contract: the word of an address is below 64.
use Rattle.policy.proofs.Addresses.{lacks_address}
use Rattle.policy.proofs.words.lacks_address.Goals as goal

pub returns : goal.returns
returns c = let a = c.args in rw c.address_word.ensures (lacks_address a.policy.now a.url)
