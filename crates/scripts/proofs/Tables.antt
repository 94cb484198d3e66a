-- The part of the script table that is lent to a script.
use Rattle.prelude.proofs.Kit.{ℕ, ◌<◌, ◌+◌, ◌-◌, ◌*◌, arith, List, ◌≡◌, ◌∙◌, refl, ap, length, take, drop, length-drop, length-take-le}
use Rattle.machine.specs.Session.{script_count}
use Rattle.machine.specs.Scripts.{script_bytes, table_bytes, script_at}

pub part_is : (table : List ℕ) (start n : ℕ) → start ≡ script_bytes * n → take (start + script_bytes - start) (drop start table) ≡ script_at table n
part_is table start n e =
    let width : start + script_bytes - start ≡ script_bytes = omega arith in
    rw (width, e) refl

pub part_length : (table : List ℕ) (start n : ℕ) → start ≡ script_bytes * n → length table ≡ table_bytes → n < script_count
    → length (take (start + script_bytes - start) (drop start table)) ≡ script_bytes
part_length table start n e long l =
    ap length (part_is table start n e) ∙ length-take-le script_bytes (drop (script_bytes * n) table) (simp length-drop (omega arith))
