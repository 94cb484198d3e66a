-- `words::by_http` meets its contract: the words of addresses by http and by https take turns.
use Rattle.policy.proofs.Addresses.{by_http}
use Rattle.policy.proofs.words.by_http.Goals as goal

pub returns : goal.returns
returns c =
    let a = c.args in
    rw (c.address_word.ensures, c.lacks_address.ensures) (by_http a.policy.now a.url)
