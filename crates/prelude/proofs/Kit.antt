-- What most proofs use of the kit, under one name.
pub use Prim.Native.Nat.{ℕ, ◌≤◌, ◌<◌, ◌+◌, ◌-◌, suc, ◌^◌, zero, ◌*◌, zero-le, ◌%◌, ◌/◌, pred}
pub use native.Mathlib.Nat.{zero-lt-suc, add-zero, zero-add, le_of_suc-le-suc, not-suc-le-zero, mod-eq_of_lt, div-one, one-mul}
pub use native.Mathlib.Numerals.{add-one}
pub use native.Mathlib.Omega.{arith}
pub use mathlib.Core.Bool.{true, ◌&&◌, Bool, false, not, ◌||◌, and_assoc, true≢false, false≢true, cond, and-true}
pub use mathlib.Core.List.{List, ◌∷◌, [], ◌++◌, map, append_assoc, append-nil}
pub use mathlib.Core.Logic.{⊎_elim}
pub use mathlib.Core.Path.{◌≡◌, sym, ◌∙◌, refl, ap, subst, ap₂}
pub use borrow.Author.Rules.{rules}
pub use borrow.Author.Tests.{ne_eqb, le-ltb, lt-ltb, not-false, not-true, eq-eqb}
pub use lib.Bits.{bit_or, and_le_r}
pub use lib.Dec.{T, eqb, ltb, eqb→eq, ltb→lt, lit<, T_not, lt→ltb, eqb-suc-zero as eqb·suc_zero, not_T}
pub use lib.Ieee.Fits.{and_i}
pub use lib.ListN.{length, take, drop, get_or, set, length-append, length-set, length-drop, drop_of_length-le}
pub use lib.Pow.{are_bytes}
pub use lib.Seq.{sets, length-take-le, take_all, drop-drop, drop-cons}
pub use native.Mathlib.Decide.{ℕ_discrete}
pub use store.Enc.{and_r, and_l}
