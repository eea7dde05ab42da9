-- `stripes_index::place_starts` meets its contract. The invariant: the starts below s are placed, `start` is the next one, and `fullest` the
-- greatest count so far. Assumes nothing.
use mathlib.Core.Path.{◌≡◌}
use lib.ListN.{length}
use Rattle.room.specs.Room.{pad}
use Rattle.stripes_index.specs.Inner.States.{second_at, sum_to, most_to}
use Rattle.stripes_index.proofs.Starts.{starts_to}
use Rattle.stripes_index.proofs.place_starts.Given as goal

abbrev pub invariant-loop-s : goal.invariant-loop-s
invariant-loop-s l = record {
  placed : l.stripes ≡ pad (length l.initial.stripes) (starts_to (second_at l.initial.stripes) l.m l.s);
  next : l.start ≡ sum_to (second_at l.initial.stripes) l.s;
  most : l.fullest ≡ most_to (second_at l.initial.stripes) l.s;
}
