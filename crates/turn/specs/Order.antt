-- The same points in another order: a ring run through backwards, or from another of its points.
use Rattle.std.specs.Prelude.{Ok, Err}
use Rattle.std.specs.Prelude.{ℕ, zero, suc, ◌+◌, ◌-◌, cond, List, [], ◌∷◌, leb, ℤ}
use Rattle.boxes.specs.declared.I32Point.{I32Point}
use Rattle.rings.specs.Ring.{point_at, segments}
use Rattle.turn.specs.declared.Turning.{Turning}
use Rattle.turn.specs.declared.Turning.TheVariants.{Anticlockwise, Clockwise, None}
use Rattle.turn.specs.Turn.{Turned}

-- the first n points of a row, as a ring is lent: each point's x, then its y
unfoldable pub ring_of : (ℕ → I32Point) → ℕ → List ℤ
ring_of point zero = []
ring_of point (suc n) = (point 0).x ∷ (point 0).y ∷ ring_of (λ i. point (suc i)) n

-- the points from the last to the first
unfoldable pub reversed : List ℤ → ℕ → List ℤ
reversed ring points = ring_of (λ i. point_at ring (points - suc i)) points

-- which point of a closed ring of n segments is met j steps after point 0, at most once around: point n is point 0 again
abbrev pub around : ℕ → ℕ → ℕ
around n j = cond (leb j n) j (j - n)

-- the same closed ring started at point k, and closed there
unfoldable pub started_at : ℕ → List ℤ → ℕ → List ℤ
started_at k ring points = ring_of (λ i. point_at ring (around (segments points) (k + i))) points

-- the other of the two turns; none stays none
abbrev pub opposite : Turning → Turning
opposite Anticlockwise = Clockwise
opposite Clockwise = Anticlockwise
opposite None = None

abbrev pub oppositely : Turned → Turned
oppositely (Ok turning) = Ok (opposite turning)
oppositely (Err why) = Err why
