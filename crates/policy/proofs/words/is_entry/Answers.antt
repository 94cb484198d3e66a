-- `words::is_entry` meets its contract: 32 goes just once into the words 32 to 63.
use Rattle.policy.proofs.Addresses.{is_entry_lem}
use Rattle.policy.proofs.words.is_entry.Goals as goal

pub returns : goal.returns
returns c = let a = c.args in rw c.address_word.ensures (is_entry_lem a.policy.now a.url)
