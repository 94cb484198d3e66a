-- `words::url_address` meets its contract: the address is the remainder of its word by 32.
use Rattle.policy.proofs.Addresses.{address_rest}
use Rattle.policy.proofs.words.url_address.Goals as goal

pub returns : goal.returns
returns c =
    let start = c in
    rw c.address_word.ensures (address_rest start.args.policy.now start.args.url start.requires.1)
