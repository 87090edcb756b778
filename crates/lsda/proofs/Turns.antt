-- The turns of a loop, for an invariant that says that what is left gives the answer.
use Rattle.std.proofs.Common.{◌≡◌, ℕ, suc, ◌+◌, ◌-◌, ◌<◌, ◌≤◌, Ok, Err, Result, arith}
use Rattle.personality.specs.declared.fault.Fault.{Fault}
use Rattle.lsda.specs.Turns.{iterate}
use Rattle.std.specs.declared.ops.ControlFlow.{ControlFlow}
use Rattle.std.specs.declared.ops.ControlFlow.TheVariants.{Continue, Break}

module _ {S A : Type 0} (turn : S → Result (ControlFlow A S) Fault) (last : S → Result A Fault) where
  pub turn_err : (n i : ℕ) (s : S) (e : Fault) (r : Result A Fault) → i < n → Err e ≡ turn s → iterate turn last (n - i) s ≡ r → Err e ≡ r
  unfolding iterate
  turn_err n i s e r l q v =
      let k : n - i ≡ suc (n - (i + 1)) = omega arith in
      rw (k, ← q) at v

  pub turn_done : (n i : ℕ) (s : S) (t : ControlFlow A S) (a : A) (r : Result A Fault) → i < n → Ok t ≡ turn s → t ≡ Break a → iterate turn last (n - i) s ≡ r → Ok a ≡ r
  unfolding iterate
  turn_done n i s t a r l q d v =
      let k : n - i ≡ suc (n - (i + 1)) = omega arith in
      rw (k, ← q, d) at v

  pub turn_next : (n i : ℕ) (s : S) (t : ControlFlow A S) (m : S) (r : Result A Fault) → i < n → Ok t ≡ turn s → t ≡ Continue m → iterate turn last (n - i) s ≡ r → iterate turn last (n - (i + 1)) m ≡ r
  unfolding iterate
  turn_next n i s t m r l q d v =
      let k : n - i ≡ suc (n - (i + 1)) = omega arith in
      rw (k, ← q, d) at v

  pub turn_end : (n i : ℕ) (s : S) (r : Result A Fault) → n ≤ i → iterate turn last (n - i) s ≡ r → last s ≡ r
  unfolding iterate
  turn_end n i s r l v =
      let k : n - i ≡ 0 = omega arith in
      rw k at v
