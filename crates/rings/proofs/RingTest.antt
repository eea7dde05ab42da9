-- The ring test over the numbers from i up to n at which a test t holds, one number at a time. Assumes nothing.
use Prim.Native.Nat.{ℕ, ◌+◌, ◌≤◌, ◌<◌}
use mathlib.Core.Path.{◌≡◌}
use mathlib.Core.Bool.{Bool, true, false, not}
use Rattle.room.specs.Numbers.{up_to}
use Rattle.rings.specs.RingTest.{test_from}
use Rattle.room.proofs.UpTo.{up_to_done, up_to_yes, up_to_no}

module _ (on inside : ℕ → Bool) (edge answer : Bool) (t : ℕ → Bool) (n i : ℕ) where
  pub test_done : n ≤ i → test_from on inside edge answer (up_to t n i) ≡ answer
  unfolding test_from
  test_done h = rw (up_to_done t n i h)

  pub test_skip : i < n → t i ≡ false → test_from on inside edge answer (up_to t n i) ≡ test_from on inside edge answer (up_to t n (i + 1))
  test_skip h e = rw (up_to_no t n i h e)

  pub test_on : i < n → t i ≡ true → on i ≡ true → test_from on inside edge answer (up_to t n i) ≡ edge
  unfolding test_from
  test_on h e o = rw (up_to_yes t n i h e, o)

  pub test_flip : i < n → t i ≡ true → on i ≡ false → inside i ≡ true → test_from on inside edge answer (up_to t n i) ≡ test_from on inside edge (not answer) (up_to t n (i + 1))
  unfolding test_from
  test_flip h e o s = rw (up_to_yes t n i h e, o, s)

  pub test_pass : i < n → t i ≡ true → on i ≡ false → inside i ≡ false → test_from on inside edge answer (up_to t n i) ≡ test_from on inside edge answer (up_to t n (i + 1))
  unfolding test_from
  test_pass h e o s = rw (up_to_yes t n i h e, o, s)
