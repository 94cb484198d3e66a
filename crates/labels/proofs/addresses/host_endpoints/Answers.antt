-- `addresses::host_endpoints` meets its contract: ones that are shifted by at most 31 stay in the word, and make the word of the host's endpoints.
use Rattle.prelude.proofs.Kit.{ℕ, ◌<◌, ◌+◌, ◌*◌, ◌%◌, ◌^◌, one-mul, arith, true, false, Bool, ◌≡◌, ◌∙◌, ap₂, lit<}
use lib.Pow.{shl_exact}
use Rattle.labels.specs.Membership.{endpoints}
use Rattle.labels.specs.Sets.{holds}
use Rattle.labels.specs.Addresses.{hosts, host_endpoints}
use Rattle.labels.proofs.Endpoints.{no_host, https_holds, both_hold, both_below}
use Rattle.labels.proofs.addresses.host_endpoints.Goals as goal

shifted : (e : ℕ) → e < endpoints → 1 * 2 ^ e % 2 ^ 32 ≡ 2 ^ e
shifted e l = shl_exact 1 e endpoints (lit< tt) (omega arith) ∙ one-mul (2 ^ e)

-- the two words, in the terms of the code
module _ (host : ℕ) (l : host < hosts) where
  https_word : 1 * 2 ^ (hosts + host) % 2 ^ 32 ≡ 2 ^ (hosts + host)
  https_word = shifted (hosts + host) (omega arith)

  both_word : 1 * 2 ^ (hosts + host) % 2 ^ 32 + 1 * 2 ^ host % 2 ^ 32 ≡ 2 ^ (hosts + host) + 2 ^ host
  both_word = ap₂ ◌+◌ https_word (shifted host (omega arith))

  https_alone : (b : Bool) → b ≡ true → (a : ℕ) → holds (1 * 2 ^ (hosts + host) % 2 ^ 32) a ≡ host_endpoints host b a
  https_alone b e a = rw (https_word, e) (https_holds host l a)

  http_too : (b : Bool) → b ≡ false → (a : ℕ) → holds (1 * 2 ^ (hosts + host) % 2 ^ 32 + 1 * 2 ^ host % 2 ^ 32) a ≡ host_endpoints host b a
  http_too b e a = rw (both_word, e) (both_hold host l a)

pub returns-then-host-ge-HOSTS : goal.returns-then-host-ge-HOSTS
returns-then-host-ge-HOSTS c endpoint = no_host c.args.host c.args.https_alone (omega arith) endpoint

pub returns-then-https_alone : goal.returns-then-https_alone
returns-then-https_alone c = let a = c.args in https_alone a.host (omega arith) a.https_alone c.if-https_alone.true

pub overflow_add-result : goal.overflow_add-result
overflow_add-result c =
    let h = c.args.host in
    let l : h < hosts = omega arith in
    omega (arith, both_word h l, both_below h l)

pub returns : goal.returns
returns c = let a = c.args in http_too a.host (omega arith) a.https_alone c.if-https_alone.false
