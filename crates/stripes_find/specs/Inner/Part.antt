-- Where the part of y's stripe lies in the list, or the place of damage met before it is read.
use Rattle.std.specs.Prelude.{Result, Ok, Err}
use Rattle.answers.specs.declared.Refusal.{Refusal}
use Rattle.answers.specs.declared.Refusal.TheVariants.{Damaged}
use Rattle.std.specs.Prelude.{cond, List, ℕ, ◌+◌, ◌*◌, ◌/◌, length, get_or, ltb, eqb, Float}
use Rattle.std.proofs.Math.Seq.{slice}
use Rattle.stripes_place.specs.Stripe.{stripe_of}
use Rattle.rings.specs.Ring.{side_at, holds_height}
use Rattle.stripes_find.specs.Search.{Reading, found_in, end_in}

abbrev pub Part : Type 0
Part = Result (ℕ × ℕ) Refusal

-- of a list of so many numbers
unfoldable pub part_at : Float → Float → List ℕ → ℕ → Float → Part
part_at least height stripes long y =
    let s = stripe_of y least height (length stripes / 2) in
    let start = get_or stripes (s * 2) 0 in
    let past = start + get_or stripes (s * 2 + 1) 0 in
    cond (eqb (length stripes / 2) 0) (Err (Damaged 0)) (cond (ltb long past) (Err (Damaged long)) (Ok (start, past)))

-- what the part from `start` up to `past` comes to, for a ring with n segments
abbrev pub run_read : (ℕ → Float) → ℕ → List ℕ → ℕ → ℕ → Float → Reading
run_read ring n list start past y =
    record {
      found = found_in n (λ i. holds_height (side_at ring i) y) (slice start past list);
      ending = end_in n start (slice start past list);
    }
