-- 01, "The packed tree": searching any bytes at a height, without any room.
use Rattle.std.specs.Prelude.{Ok, Err, ℕ, zero, suc, ◌+◌, List, [], ◌++◌, Bool, true, false, not, cond, ◌||◌, ltb, eqb, length, get_or, take, Float}
use Rattle.std.specs.Float.Ieee.{lt}
use Rattle.boxes.specs.declared.Rect.{Rect}
use Rattle.boxes.specs.Quads.{quad_bounds}
use Rattle.rings.specs.Ring.{side_at, holds_height}
use Rattle.room.specs.Numbers.{cons_if}
use Rattle.answers.specs.declared.Refusal.{Refusal}
use Rattle.answers.specs.declared.Refusal.TheVariants.{Damaged}
use Rattle.varint.specs.Uvarint.{ReadUvarint}
use Rattle.varint.specs.Uvarint.{read_uvarint}
use Rattle.tree.specs.Tree.{max_depth}

-- how a reading ends: before a place, or with a refusal
pub data End : Type 0 where
  ends : ℕ → End
  fails : Refusal → End

-- the segments found, in order, and how the reading ends
abbrev pub Found : Type 0
Found = List ℕ × End

-- "place the byte where the field starts"
abbrev pub damaged : ℕ → Found
damaged p = ([], fails (Damaged p))

abbrev pub upto : ℕ → Found
upto p = ([], ends p)

-- a reading, and then another one from where it ends
unfoldable pub after : Found → (ℕ → Found) → Found
after (xs, ends p) f = (xs ++ (f p).0, (f p).1)
after (xs, fails why) f = (xs, fails why)

-- "the ring's box misses y", "whose box meets the height line": touching is meeting
abbrev pub meets_height : Rect → Float → Bool
meets_height box y = not (lt y box.min.y || lt box.max.y y)

-- what is done with a number that was read
abbrev pub got : ReadUvarint → (ℕ → ℕ → Found) → Found
got (Ok (v, p)) f = f v p
got (Err why) f = ([], fails why)

-- "bytes left over": a node's part ends where its reading does
abbrev pub closed : ℕ → ℕ → Found
closed end p = cond (eqb p end) (upto p) (damaged p)

module _ (bytes : List ℕ) (ring : ℕ → Float) (segments : ℕ) (y : Float) where
  -- a number at p: "A field must end inside its node's part"
  abbrev pub field : ℕ → ℕ → (ℕ → ℕ → Found) → Found
  field end p f = got (read_uvarint 64 (take end bytes) p) f

  -- a segment is listed where its own closed height range holds y
  abbrev pub listed : ℕ → List ℕ
  listed i = cons_if (holds_height (side_at ring i) y) i []

  -- n own segments, each told by its difference from the last: "a segment number not below the count" is damage
  unfoldable pub own_from : ℕ → ℕ → ℕ → ℕ → Found
  own_from end zero last p = upto p
  own_from end (suc n) last p =
      field end p (λ d next. cond (ltb (last + d) segments) (after (listed (last + d), ends next) (own_from end n (last + d))) (damaged p))

  unfoldable pub own : ℕ → ℕ → Found
  own end p = field end p (λ n next. own_from end n 0 next)

  -- the bytes of a child are read as a node with this box, from and to
  abbrev pub Visit : Type 0
  Visit = Rect → ℕ → ℕ → Found

  -- Quadrant q, whose size stands at p. "a child past its parent's part; a child of size above 0 in a node at depth 64" are damage.
  -- A child is read where its box meets the height line and passed over where not.
  unfoldable pub child : Bool → Visit → Rect → ℕ → ℕ → ℕ → Found
  child deepest visit box end q p =
      field end p (λ size start.
      cond (eqb size 0) (upto start)
      (cond (deepest || ltb end (start + size)) (damaged p)
      (cond (meets_height (quad_bounds box q) y) (visit (quad_bounds box q) start (start + size)) (upto (start + size)))))

  unfoldable pub children : Bool → Visit → Rect → ℕ → ℕ → Found
  children deepest visit box end p =
      after (child deepest visit box end 0 p) λ p₁.
      after (child deepest visit box end 1 p₁) λ p₂.
      after (child deepest visit box end 2 p₂) λ p₃.
      after (child deepest visit box end 3 p₃) λ p₄.
      closed end p₄

  -- "a split byte missing or above 1" is damage
  abbrev pub by_split : ℕ → Found → Found → Found → Found
  by_split zero unsplit split other = unsplit
  by_split (suc zero) unsplit split other = split
  by_split (suc (suc b)) unsplit split other = other

  unfoldable pub after_own : Bool → Visit → Rect → ℕ → ℕ → Found
  after_own deepest visit box end p =
      cond (ltb p end) (by_split (get_or bytes p 0) (closed end (p + 1)) (children deepest visit box end (p + 1)) (damaged p)) (damaged p)

  -- "Own segments first, then quadrants"
  unfoldable pub node_with : Bool → Visit → Visit
  node_with deepest visit box p end = after (own end p) (after_own deepest visit box end)

  -- a node with this many levels below it; one with none reads no child
  unfoldable pub node : ℕ → Visit
  node zero = node_with true (λ box p end. upto end)
  node (suc left) = node_with false (node left)

  -- "nothing if the ring's box misses y, before any damage is looked for"
  unfoldable pub searched : Rect → Found
  searched box = cond (meets_height box y) (node max_depth box 0 (length bytes)) (upto 0)
