-- The ways through packing, each as a law. Assumes nothing.
use Prim.Native.Nat.{ℕ, zero, suc, ◌+◌, ◌-◌, ◌*◌, ◌≤◌, ◌<◌}
use mathlib.Core.Path.{◌≡◌, refl, sym, ap, ◌∙◌}
use mathlib.Core.List.{List, [], ◌∷◌, ◌++◌, append-nil}
use native.Mathlib.Omega.{arith}
use native.Mathlib.Numerals.{sub-one}
use lib.ListN.{length, get_or, take, drop, length-append, length-take, length-drop}
use lib.Seq.{take_all}
use borrow.Author.Tests.{le-leb, lt-leb}
use Rattle.room.specs.Room.{write}
use Rattle.room.proofs.Write.{write_length}
use Rattle.varint.specs.Leb128.{encode}
use Rattle.tree.specs.Tree.{max_items, sized}
use Rattle.tree_pack.specs.Inner.Packing.{Bytes, Node, head_of, leaf_of, kids_of, counts_of, split_of, node_of, Stands, Kid, KidsStand, NodeStands}
use Rattle.tree_pack.proofs.Own.{write_two}

-- a part from a place on
pub part_from : (a : ℕ) (l : List ℕ) → take (length l - a) (drop a l) ≡ drop a l
part_from a l = take_all (length l - a) (drop a l) (omega (arith, length-drop a l))

-- ---- quadrants
module _ (v : Node) (stands : Stands) where
  pub kids_none : (counts run rest : List ℕ) → length counts ≡ 0 → kids_of v counts run rest ≡ ([], 0)
  unfolding kids_of
  kids_none [] run rest e = refl
  kids_none (n ∷ counts) run rest e = absurd (omega arith)

  -- no more nodes than there are records
  pub kids_fit : (counts run rest : List ℕ) → KidsStand v stands counts run rest → (kids_of v counts run rest).1 * 6 ≤ length rest
  unfolding kids_of KidsStand
  kids_fit [] run rest s = omega arith
  kids_fit (zero ∷ counts) run rest s = kids_fit counts run rest s
  kids_fit (suc n ∷ counts) run rest s =
      let k = (v (take (suc n) run) rest).1 in
      let f = s.0.fits in
      omega (arith, length-drop (k * 6) rest, kids_fit counts (drop (suc n) run) (drop (k * 6) rest) s.1)

  -- a quadrant that nothing goes to
  pub record Nothing (counts run rest : List ℕ) : Type 0 where
    pub same : kids_of v counts run rest ≡ (encode 0 ++ (kids_of v (drop 1 counts) run rest).0, (kids_of v (drop 1 counts) run rest).1)
    pub stand : KidsStand v stands (drop 1 counts) run rest

  pub nothing : (counts run rest : List ℕ) (n : ℕ) → (length counts ≡ 0 → ⊥) → n ≡ get_or counts 0 0 → n ≡ 0 → KidsStand v stands counts run rest → Nothing counts run rest
  unfolding kids_of KidsStand sized
  nothing [] run rest n d e z s = absurd (d refl)
  nothing (zero ∷ counts) run rest n d e z s = record { same = rw append-nil refl; stand = s }
  nothing (suc m ∷ counts) run rest n d e z s = absurd (omega arith)

  -- one that n segments go to
  pub record Quadrant (counts run rest : List ℕ) (n : ℕ) : Type 0 where
    pub kid : Kid v stands n run rest
    pub stand : KidsStand v stands (drop 1 counts) (drop n run) (drop ((v (take n run) rest).1 * 6) rest)
    pub same : kids_of v counts run rest
        ≡ (
          (encode (length (v (take n run) rest).0) ++ (v (take n run) rest).0) ++ (kids_of v (drop 1 counts) (drop n run) (drop ((v (take n run) rest).1 * 6) rest)).0,
          (v (take n run) rest).1 + (kids_of v (drop 1 counts) (drop n run) (drop ((v (take n run) rest).1 * 6) rest)).1,
        )

  pub quadrant : (counts run rest : List ℕ) (n : ℕ) → (length counts ≡ 0 → ⊥) → n ≡ get_or counts 0 0 → (n ≡ 0 → ⊥) → KidsStand v stands counts run rest → Quadrant counts run rest n
  unfolding kids_of KidsStand sized
  quadrant [] run rest n d e z s = absurd (d refl)
  quadrant (zero ∷ counts) run rest n d e z s = absurd (z e)
  quadrant (suc m ∷ counts) run rest n d e z s = rw e (record { kid = s.0; stand = s.1; same = refl })

  pub none_written : (counts run rest o : List ℕ) (at : ℕ) → length counts ≡ 0 → (0 ≡ (kids_of v counts run rest).1) × (o ≡ write o at (kids_of v counts run rest).0)
  unfolding write
  none_written counts run rest o at e = rw (kids_none counts run rest e) (refl, refl)

  -- writing one that nothing goes to
  module _ (counts run rest : List ℕ) (s : Nothing counts run rest) (o : List ℕ) (at : ℕ) (room : at + length (kids_of v counts run rest).0 ≤ length o) where
    nothing_long : length (kids_of v counts run rest).0 ≡ length (encode 0) + length (kids_of v (drop 1 counts) run rest).0
    nothing_long = ap (λ (b : Bytes). length b.0) s.same ∙ length-append (encode 0) (kids_of v (drop 1 counts) run rest).0

    pub nothing_fits : at + length (encode 0) ≤ length o
    nothing_fits = omega (arith, nothing_long)

    module _ (o₁ : List ℕ) (e₁ : o₁ ≡ write o at (encode 0)) (p : ℕ) (f₁ : p ≡ at + length (encode 0)) (counts' : List ℕ) (ec : counts' ≡ drop 1 counts) where
      pub nothing_stand : KidsStand v stands counts' run rest
      nothing_stand = rw ec s.stand

      pub nothing_room : p + length (kids_of v counts' run rest).0 ≤ length o₁
      nothing_room = rw (ec, e₁, write_length) (omega (arith, nothing_long))

      pub nothing_written : (r : ℕ) (o₂ : List ℕ) → r ≡ (kids_of v counts' run rest).1 → o₂ ≡ write o₁ p (kids_of v counts' run rest).0
          → (r ≡ (kids_of v counts run rest).1) × (o₂ ≡ write o at (kids_of v counts run rest).0)
      nothing_written r o₂ a b = (
        a ∙ rw ec (sym (ap (λ (x : Bytes). x.1) s.same)),
        b ∙ rw ec (write_two o o₁ at p (encode 0) (kids_of v (drop 1 counts) run rest).0 e₁ f₁ ∙ ap (λ (x : Bytes). write o at x.0) (sym s.same)),
      )

  -- writing one that n segments go to
  module _ (counts run rest : List ℕ) (n : ℕ) (q : Quadrant counts run rest n) (o : List ℕ) (at : ℕ) (room : at + length (kids_of v counts run rest).0 ≤ length o) where
    abbrev bytes : List ℕ
    bytes = (v (take n run) rest).0

    abbrev more : Bytes
    more = kids_of v (drop 1 counts) (drop n run) (drop ((v (take n run) rest).1 * 6) rest)

    quadrant_long : length (kids_of v counts run rest).0 ≡ length (encode (length bytes)) + length bytes + length more.0
    quadrant_long =
        ap (λ (b : Bytes). length b.0) q.same
        ∙ length-append (encode (length bytes) ++ bytes) more.0
        ∙ ap (λ (k : ℕ). k + length more.0) (length-append (encode (length bytes)) bytes)

    module _ (size : ℕ) (es : size ≡ length bytes) where
      pub size_fits : at + length (encode size) ≤ length o
      size_fits = rw es (omega (arith, quadrant_long))

      module _ (o₁ : List ℕ) (e₁ : o₁ ≡ write o at (encode size)) (start : ℕ) (f₁ : start ≡ at + length (encode size)) where
        size_place : start ≡ at + length (encode (length bytes))
        size_place = rw es at f₁

        pub kid_room : start + length bytes ≤ length o₁
        kid_room = rw (e₁, write_length) (omega (arith, quadrant_long, size_place))

        module _ (k : ℕ) (ek : k ≡ (v (take n run) rest).1) (o₂ : List ℕ) (e₂ : o₂ ≡ write o₁ start bytes) where
          pub past_fits : start + size ≤ length o
          past_fits = omega (arith, quadrant_long, size_place)

          module _ (counts' run' rest' : List ℕ) (ec : counts' ≡ drop 1 counts) (er : run' ≡ drop n run) (et : rest' ≡ drop (k * 6) rest) where
            more_same : kids_of v counts' run' rest' ≡ more
            more_same = rw (ec, er, et, ek)

            pub more_stand : KidsStand v stands counts' run' rest'
            more_stand = rw (ec, er, et, ek) q.stand

            pub more_room : start + size + length (kids_of v counts' run' rest').0 ≤ length o₂
            more_room =
                rw (more_same, e₂, write_length, e₁, write_length) (omega (arith, quadrant_long, size_place))

            pub more_fit : (r : ℕ) → r ≡ (kids_of v counts' run' rest').1 → (k + r) * 6 ≤ length rest
            more_fit r a =
                let f = kids_fit counts' run' rest' more_stand in
                let g = q.kid.fits in
                omega (arith, a, ek, ap length et, length-drop (k * 6) rest)

            pub quadrant_written : (r : ℕ) (o₃ : List ℕ) → r ≡ (kids_of v counts' run' rest').1 → o₃ ≡ write o₂ (start + size) (kids_of v counts' run' rest').0
                → (k + r ≡ (kids_of v counts run rest).1) × (o₃ ≡ write o at (kids_of v counts run rest).0)
            quadrant_written r o₃ a b =
                let w : o₂ ≡ write o at (encode (length bytes) ++ bytes) = e₂ ∙ write_two o o₁ at start (encode (length bytes)) bytes (rw es at e₁) size_place in
                let l = length-append (encode (length bytes)) bytes in
                let p : start + size ≡ at + length (encode (length bytes) ++ bytes) = omega (arith, l, size_place) in (
                  omega (arith, a, ek, ap (λ (x : Bytes). x.1) more_same, ap (λ (x : Bytes). x.1) q.same),
                  b
                      ∙ ap (λ (x : Bytes). write o₂ (start + size) x.0) more_same
                      ∙ write_two o o₂ at (start + size) (encode (length bytes) ++ bytes) more.0 w p
                      ∙ ap (λ (x : Bytes). write o at x.0) (sym q.same),
                )

-- ---- nodes
pub node_long : (left : ℕ) (run rest : List ℕ) → NodeStands left run rest → 6 ≤ length rest
unfolding NodeStands
node_long zero run rest s = s
node_long (suc left) run rest s = s.0

pub node_deepest : (left : ℕ) (run rest : List ℕ) → left ≡ 0 → node_of left run rest ≡ leaf_of run
unfolding node_of
node_deepest zero run rest e = refl
node_deepest (suc left) run rest e = absurd (omega arith)

pub node_few : (left : ℕ) (run rest : List ℕ) → length run ≤ max_items → node_of left run rest ≡ leaf_of run
unfolding node_of
node_few zero run rest h = refl
node_few (suc left) run rest h = rw (le-leb (length run) 12 h)

module _ (left : ℕ) (run rest : List ℕ) (e : node_of left run rest ≡ leaf_of run) (o : List ℕ) (at : ℕ) where
  pub leaf_room : at + length (node_of left run rest).0 ≤ length o → at + length (head_of run 0) ≤ length o
  leaf_room h = rw e at h

  pub leaf_written : (o₁ : List ℕ) → o₁ ≡ write o at (head_of run 0) → (1 ≡ (node_of left run rest).1) × (o₁ ≡ write o at (node_of left run rest).0)
  leaf_written o₁ w = rw e (refl, w)

-- a node that splits
pub record Splits (left : ℕ) (run rest : List ℕ) (own : ℕ) : Type 0 where
  pub within : own ≤ length run
  pub stand : KidsStand (node_of (left - 1)) (NodeStands (left - 1)) (counts_of rest) (drop own run) (drop 6 rest)
  pub same : node_of left run rest
      ≡ (
        head_of (take own run) 1 ++ (kids_of (node_of (left - 1)) (counts_of rest) (drop own run) (drop 6 rest)).0,
        1 + (kids_of (node_of (left - 1)) (counts_of rest) (drop own run) (drop 6 rest)).1,
      )

pub splits : (left : ℕ) (run rest : List ℕ) (own : ℕ) → (left ≡ 0 → ⊥) → max_items < length run → own ≡ get_or rest 0 0 → NodeStands left run rest → Splits left run rest own
unfolding node_of split_of NodeStands
splits zero run rest own d h e s = absurd (d refl)
splits (suc left) run rest own d h e s =
    rw e (record { within = (s.1 h).within; stand = rw sub-one (s.1 h).kids; same = rw (sub-one, lt-leb (length run) 12 h) refl })

module _ (left : ℕ) (run rest : List ℕ) (own : ℕ) (s : Splits left run rest own) (o : List ℕ) (at : ℕ) (room : at + length (node_of left run rest).0 ≤ length o) where
  abbrev all : Bytes
  all = kids_of (node_of (left - 1)) (counts_of rest) (drop own run) (drop 6 rest)

  split_long : length (node_of left run rest).0 ≡ length (head_of (take own run) 1) + length all.0
  split_long = ap (λ (b : Bytes). length b.0) s.same ∙ length-append (head_of (take own run) 1) all.0

  pub head_room : at + length (head_of (take own run) 1) ≤ length o
  head_room = omega (arith, split_long)

  module _ (o₁ : List ℕ) (e₁ : o₁ ≡ write o at (head_of (take own run) 1)) (p : ℕ) (f₁ : p ≡ at + length (head_of (take own run) 1)) (run' rest' : List ℕ) (er : run' ≡ drop own run) (et : rest' ≡ drop 6 rest) where
    all_same : kids_of (node_of (left - 1)) (counts_of rest) run' rest' ≡ all
    all_same = rw (er, et)

    pub all_stand : KidsStand (node_of (left - 1)) (NodeStands (left - 1)) (counts_of rest) run' rest'
    all_stand = rw (er, et) s.stand

    pub all_room : p + length (kids_of (node_of (left - 1)) (counts_of rest) run' rest').0 ≤ length o₁
    all_room = rw (all_same, e₁, write_length) (omega (arith, split_long))

    pub all_fit : (r : ℕ) → r ≡ (kids_of (node_of (left - 1)) (counts_of rest) run' rest').1 → r * 6 ≤ length rest
    all_fit r a =
        let f = kids_fit (node_of (left - 1)) (NodeStands (left - 1)) (counts_of rest) run' rest' all_stand in
        omega (arith, a, ap length et, length-drop 6 rest)

    pub split_written : (r : ℕ) (o₂ : List ℕ) → r ≡ (kids_of (node_of (left - 1)) (counts_of rest) run' rest').1
        → o₂ ≡ write o₁ p (kids_of (node_of (left - 1)) (counts_of rest) run' rest').0
        → (1 + r ≡ (node_of left run rest).1) × (o₂ ≡ write o at (node_of left run rest).0)
    split_written r o₂ a b = (
      omega (arith, a, ap (λ (x : Bytes). x.1) all_same, ap (λ (x : Bytes). x.1) s.same),
      b
          ∙ ap (λ (x : Bytes). write o₁ p x.0) all_same
          ∙ write_two o o₁ at p (head_of (take own run) 1) all.0 e₁ f₁
          ∙ ap (λ (x : Bytes). write o at x.0) (sym s.same),
    )

pub counts_four : (rest : List ℕ) → length (counts_of rest) ≤ 4
counts_four rest = simp length-take (omega arith)
