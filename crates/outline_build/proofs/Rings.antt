-- Ring after ring: what the rooms hold before the first, after each, and after the last. Assumes nothing.
use Rattle.std.specs.Prelude.{Some, None}
use Prim.Native.Nat.{ℕ, ◌+◌, ◌*◌, ◌≤◌, ◌<◌}
use mathlib.Core.Path.{◌≡◌, refl, sym, ap, ap₂, ◌∙◌}
use mathlib.Core.List.{List, [], ◌∷◌, ◌++◌}
use mathlib.Core.Bool.{Bool, true, false, ◌&&◌}
use native.Mathlib.Omega.{arith}
use native.Mathlib.Numerals.{add-one}
use lib.ListN.{length, take, drop, replicate}
use lib.Seq.{paste, take_all}
use lib.Dec.{leb}
use lib.IntN.{ℤ}
use lib.Ieee.{Float}
use borrow.Author.Tests.{leb-true}
use Rattle.room.specs.Room.{pad, write}
use Rattle.room.proofs.Write.{write_eq}
use Rattle.rings.specs.Ring.{wide, segments}
use Rattle.rings.proofs.Checks.{both}
use Rattle.outline_check.specs.Outline.{rings, size_at, ring_of}
use Rattle.outline_check.proofs.Starts.{start_none, start_more}
use Rattle.outline_index.specs.declared.BuildOptions.{BuildOptions}
use Rattle.outline_index.specs.declared.Places.{Places}
use Rattle.outline_index.specs.declared.Gain.{Gain}
use Rattle.outline_index.specs.Inner.Step.{Gained, ZeroFrom, row_numbers, stripes_fit, tree_fits, gain_in, Stepped}
use Rattle.outline_index.specs.Pools.{in_turn, pad_with, every}
use Rattle.outline_index.specs.Parts.{no_height, stripes_part, list_part, bytes_part, span_part, stripes_in, entries_in, row_of, few_stripes, enough_work}
use Rattle.outline_index.proofs.Pools.{turn_more, turn_like, pad_none, pad_length, pad_over, used_length, used_zero, used_more, every_more}
use Rattle.outline_index.proofs.Steps.{stripes_length, step_done, step_short}
use Rattle.outline_build.specs.Indexes.{stripes_to, list_to, bytes_to, spans_to, row_at, rows_to, calls, roomy}
use Rattle.outline_build.specs.Inner.Standing.{Zero, Standing, AllBuilt}
use Rattle.outline_build.proofs.Roomy.{roomy_all, step_lacks}

turn_none : {A : Type 0} (f : ℕ → List A) → in_turn f 0 ≡ []
unfolding in_turn
turn_none f = refl

turn_next : {A : Type 0} (f : ℕ → List A) (k : ℕ) → in_turn f (k + 1) ≡ in_turn f k ++ f k
unfolding in_turn
turn_next f k = rw add-one

every_none : (t : ℕ → Bool) → every t 0 ≡ true
unfolding every
every_none t = refl

-- a part of w elements written behind k parts of w elements each, in room that is zero there
over : {A : Type 0} (z : A) (n k w : ℕ) (f : ℕ → List A) (xs part : List A) → ((j : ℕ) → length (f j) ≡ w) → xs ≡ pad_with z n (in_turn f k) → part ≡ f k
    → w * k + w ≤ n → take (w * k) xs ++ part ++ drop (w * k + w) xs ≡ pad_with z n (in_turn f (k + 1))
over {A} z n k w f xs part like is this fits =
    let P = in_turn f k in
    let e : w * k ≡ length P = sym (turn_like f w k like) in
    let d : w * k + w ≡ length P + length (f k) = ap₂ ◌+◌ e (sym (like k)) in
    ap₂ (λ (u v : List A). u ++ part ++ v) (ap₂ take e is) (ap₂ drop d is)
    ∙ ap (λ (p : List A). take (length P) (pad_with z n P) ++ p ++ drop (length P + length (f k)) (pad_with z n P)) this
    ∙ pad_over z n P (f k) (omega arith)
    ∙ ap (pad_with z n) (sym (turn_next f k))

module _ (options : BuildOptions) (sizes : List ℕ) (coords : List ℤ) (T : List ℕ) (F : List Float) (S L B W : List ℕ) where
  none_yet : (n : ℕ) (f : ℕ → List ℕ) (xs : List ℕ) → length xs ≡ n → xs ≡ replicate (length xs) 0 → xs ≡ pad n (in_turn f 0)
  none_yet n f xs l e =
      e ∙ ap (λ (m : ℕ). replicate m 0) l ∙ sym (pad_none 0 n) ∙ ap (pad n) (sym (turn_none f))

  -- before the first ring
  pub standing_first : Zero T F S L B W → Standing options sizes coords T F S L B W 0 (record { stripes = 0; list = 0; bytes = 0 }) 0 T F S L B W
  standing_first z =
      record {
        start = sym (ap (λ (x : ℕ). 2 * x) (start_none sizes));
        stripes_at = sym (ap length (turn_none (λ j. stripes_part options (wide (ring_of sizes coords j)) (size_at sizes j))));
        list_at = sym (ap length (turn_none (λ j. list_part options (wide (ring_of sizes coords j)) (size_at sizes j))));
        bytes_at = sym (ap length (turn_none (λ j. bytes_part options (wide (ring_of sizes coords j)) (size_at sizes j))));
        stripes_fit_of = omega arith;
        list_fit = omega arith;
        bytes_fit = omega arith;
        rows = none_yet (length T) (row_at options sizes coords) T refl z.rows;
        heights =
            z.heights ∙ sym (pad_none no_height (length F))
            ∙ ap (pad_with no_height (length F)) (sym (turn_none (λ j. span_part options (wide (ring_of sizes coords j)) (size_at sizes j))));
        pairs = none_yet (length S) (λ j. stripes_part options (wide (ring_of sizes coords j)) (size_at sizes j)) S refl z.pairs;
        entries = none_yet (length L) (λ j. list_part options (wide (ring_of sizes coords j)) (size_at sizes j)) L refl z.entries;
        packed = none_yet (length B) (λ j. bytes_part options (wide (ring_of sizes coords j)) (size_at sizes j)) B refl z.packed;
        numbers = z.numbers;
        called = every_none (calls options sizes coords W);
      }

  -- what is known between two rings, put to use
  module _ (k : ℕ) (at : Places) (from : ℕ) (t : List ℕ) (f : List Float) (s l b w : List ℕ) (st : Standing options sizes coords T F S L B W k at from t f s l b w)
      (zw : W ≡ replicate (length W) 0) where
    abbrev ring : ℕ → Float
    ring = wide (ring_of sizes coords k)

    abbrev points : ℕ
    points = size_at sizes k

    pub stripes_zero : ZeroFrom at.stripes s
    stripes_zero = used_zero (length S) at.stripes (stripes_to options sizes coords k) s st.pairs st.stripes_at st.stripes_fit_of

    pub list_zero : ZeroFrom at.list l
    list_zero = used_zero (length L) at.list (list_to options sizes coords k) l st.entries st.list_at st.list_fit

    pub bytes_zero : ZeroFrom at.bytes b
    bytes_zero = used_zero (length B) at.bytes (bytes_to options sizes coords k) b st.packed st.bytes_at st.bytes_fit

    stripes_long : length s ≡ length S
    stripes_long = used_length (length S) at.stripes (stripes_to options sizes coords k) s st.pairs st.stripes_at st.stripes_fit_of

    list_long : length l ≡ length L
    list_long = used_length (length L) at.list (list_to options sizes coords k) l st.entries st.list_at st.list_fit

    bytes_long : length b ≡ length B
    bytes_long = used_length (length B) at.bytes (bytes_to options sizes coords k) b st.packed st.bytes_at st.bytes_fit

    work_same : w ≡ W
    work_same = st.numbers ∙ sym zw

    abbrev fits : Bool
    fits = stripes_fit options ring points at s l && tree_fits options ring points at b w

    -- a step that finds no room
    pub standing_short : k < rings sizes → (r : Gained) (s' l' b' w' : List ℕ) → Stepped options ring points fits at s l b w r s' l' b' w' → r ≡ None
        → roomy T F S L B W options sizes coords ≡ false
    standing_short h r s' l' b' w' e short =
        step_lacks options sizes coords T F S L B W k h at s l b w st.stripes_at st.list_at st.bytes_at stripes_long list_long bytes_long work_same
        (step_short options ring points fits at s l b w r s' l' b' w' e short)

    module _ (h : k < rings sizes) (r : Gained) (g : Gain) (s' l' b' w' : List ℕ) (e : Stepped options ring points fits at s l b w r s' l' b' w') (is : r ≡ Some g) where
      pub record Fitting : Type 0 where
        pub gain : g ≡ gain_in options ring points
        pub few : few_stripes options ring points ≡ true
        pub enough : enough_work options ring points W ≡ true
        pub stripes_next : at.stripes + 2 * g.stripes ≡ length (stripes_to options sizes coords (k + 1))
        pub list_next : at.list + g.entries ≡ length (list_to options sizes coords (k + 1))
        pub bytes_next : at.bytes + g.bytes ≡ length (bytes_to options sizes coords (k + 1))
        pub stripes_room : at.stripes + 2 * g.stripes ≤ length S
        pub list_room : at.list + g.entries ≤ length L
        pub bytes_room : at.bytes + g.bytes ≤ length B
        pub pairs : s' ≡ pad (length S) (stripes_to options sizes coords (k + 1))
        pub entries : l' ≡ pad (length L) (list_to options sizes coords (k + 1))
        pub packed : b' ≡ pad (length B) (bytes_to options sizes coords (k + 1))
        pub numbers : w' ≡ replicate (length W) 0

      -- a step that finds room
      pub fitting : Fitting
      unfolding entries_in
      fitting =
          let d = step_done options ring points fits at s l b w r s' l' b' w' g e is in
          let parts = both (stripes_fit options ring points at s l) (tree_fits options ring points at b w) d.0 in
          let two = both (few_stripes options ring points && leb (at.stripes + length (stripes_part options ring points)) (length s)) (leb (at.list + length (list_part options ring points)) (length l)) parts.0 in
          let one = both (few_stripes options ring points) (leb (at.stripes + length (stripes_part options ring points)) (length s)) two.0 in
          let tree = both (enough_work options ring points w) (leb (at.bytes + length (bytes_part options ring points)) (length b)) parts.1 in
          let gs : g.stripes ≡ stripes_in options ring points = ap (λ (x : Gain). x.stripes) d.1 in
          let ge : g.entries ≡ length (list_part options ring points) = ap (λ (x : Gain). x.entries) d.1 in
          let gb : g.bytes ≡ length (bytes_part options ring points) = ap (λ (x : Gain). x.bytes) d.1 in
          let fs : at.stripes + length (stripes_part options ring points) ≤ length s = leb-true _ _ one.1 in
          let fl : at.list + length (list_part options ring points) ≤ length l = leb-true _ _ two.1 in
          let fb : at.bytes + length (bytes_part options ring points) ≤ length b = leb-true _ _ tree.1 in
          let long = stripes_length options ring points at in
          let ts = turn_more (λ j. stripes_part options (wide (ring_of sizes coords j)) (size_at sizes j)) k in
          let tl = turn_more (λ j. list_part options (wide (ring_of sizes coords j)) (size_at sizes j)) k in
          let tb = turn_more (λ j. bytes_part options (wide (ring_of sizes coords j)) (size_at sizes j)) k in
          record {
            gain = d.1;
            few = one.0;
            enough = ap (enough_work options ring points) (sym work_same) ∙ tree.0;
            stripes_next = rw add-one (omega (arith, st.stripes_at));
            list_next = rw add-one (omega (arith, st.list_at));
            bytes_next = rw add-one (omega (arith, st.bytes_at));
            stripes_room = omega (arith, stripes_long);
            list_room = omega (arith, list_long);
            bytes_room = omega (arith, bytes_long);
            pairs =
                d.2
                ∙ used_more (length S) at.stripes (stripes_to options sizes coords k) s st.pairs st.stripes_at st.stripes_fit_of (stripes_part options ring points)
                ∙ ap (pad (length S)) (sym (turn_next (λ j. stripes_part options (wide (ring_of sizes coords j)) (size_at sizes j)) k));
            entries =
                d.3
                ∙ used_more (length L) at.list (list_to options sizes coords k) l st.entries st.list_at st.list_fit (list_part options ring points)
                ∙ ap (pad (length L)) (sym (turn_next (λ j. list_part options (wide (ring_of sizes coords j)) (size_at sizes j)) k));
            packed =
                d.4
                ∙ used_more (length B) at.bytes (bytes_to options sizes coords k) b st.packed st.bytes_at st.bytes_fit (bytes_part options ring points)
                ∙ ap (pad (length B)) (sym (turn_next (λ j. bytes_part options (wide (ring_of sizes coords j)) (size_at sizes j)) k));
            numbers = d.5 ∙ st.numbers;
          }

      -- its row and its span are written
      module _ (t' : List ℕ) (f' : List Float) (rows : t' ≡ paste t (10 * k) (row_numbers (segments points) options at g) 10)
          (heights : f' ≡ write f (2 * k) (g.least ∷ g.height ∷ [])) (rt : 10 * rings sizes ≤ length T) (rf : 2 * rings sizes ≤ length F) where
        row_is : row_numbers (segments points) options at g ≡ row_at options sizes coords k
        row_is =
            ap (row_numbers (segments points) options at) fitting.gain
            ∙ ap (λ (x : ℕ). row_of options ring points x at.list at.bytes) st.stripes_at
            ∙ ap (λ (x : ℕ). row_of options ring points (length (stripes_to options sizes coords k)) x at.bytes) st.list_at
            ∙ ap (λ (x : ℕ). row_of options ring points (length (stripes_to options sizes coords k)) (length (list_to options sizes coords k)) x) st.bytes_at

        rows_next : t' ≡ pad (length T) (rows_to options sizes coords (k + 1))
        rows_next =
            rows
            ∙ over 0 (length T) k 10 (row_at options sizes coords) t (take 10 (row_numbers (segments points) options at g)) (λ j. refl)
            st.rows
            (take_all 10 (row_numbers (segments points) options at g) (omega arith) ∙ row_is) (omega arith)

        spans_long : length f ≡ length F
        spans_long =
            ap length st.heights
            ∙ pad_length no_height (length F) (spans_to options sizes coords k)
            (omega (arith, turn_like (λ j. span_part options (wide (ring_of sizes coords j)) (size_at sizes j)) 2 k (λ j. refl)))

        heights_next : f' ≡ pad_with no_height (length F) (spans_to options sizes coords (k + 1))
        heights_next =
            heights
            ∙ write_eq f (2 * k) (g.least ∷ g.height ∷ []) (omega (arith, spans_long))
            ∙ over no_height (length F) k 2 (λ j. span_part options (wide (ring_of sizes coords j)) (size_at sizes j)) f (g.least ∷ g.height ∷ []) (λ j. refl) st.heights
            (ap (λ (x : Gain). x.least ∷ x.height ∷ []) fitting.gain) (omega arith)

        pub standing_next : Standing options sizes coords T F S L B W (k + 1)
            (record { stripes = at.stripes + 2 * g.stripes; list = at.list + g.entries; bytes = at.bytes + g.bytes })
            (from + 2 * points) t' f' s' l' b' w'
        standing_next =
            let i = fitting in
            record {
              start = omega (arith, st.start, start_more sizes k);
              stripes_at = i.stripes_next;
              list_at = i.list_next;
              bytes_at = i.bytes_next;
              stripes_fit_of = i.stripes_room;
              list_fit = i.list_room;
              bytes_fit = i.bytes_room;
              rows = rows_next;
              heights = heights_next;
              pairs = i.pairs;
              entries = i.entries;
              packed = i.packed;
              numbers = i.numbers;
              called = rw add-one (every_more (calls options sizes coords W) k st.called (rw (i.few, i.enough)));
            }

    -- after the last ring
    pub standing_last : k ≡ rings sizes → 10 * rings sizes ≤ length T → 2 * rings sizes ≤ length F → AllBuilt options sizes coords T F S L B W true t f s l b w
    unfolding AllBuilt
    standing_last e rt rf =
        let all : every (calls options sizes coords W) (rings sizes) ≡ true = rw (← e) st.called in
        let n = rings sizes in (
          roomy_all options sizes coords T F S L B W
              (omega (arith, turn_like (row_at options sizes coords) 10 n (λ j. refl)))
              (omega (arith, turn_like (λ j. span_part options (wide (ring_of sizes coords j)) (size_at sizes j)) 2 n (λ j. refl)))
              (omega (arith, st.stripes_at, st.stripes_fit_of, ap (λ (j : ℕ). length (stripes_to options sizes coords j)) e))
              (omega (arith, st.list_at, st.list_fit, ap (λ (j : ℕ). length (list_to options sizes coords j)) e))
              (omega (arith, st.bytes_at, st.bytes_fit, ap (λ (j : ℕ). length (bytes_to options sizes coords j)) e))
              all,
          st.rows ∙ ap (λ (j : ℕ). pad (length T) (rows_to options sizes coords j)) e,
          st.heights ∙ ap (λ (j : ℕ). pad_with no_height (length F) (spans_to options sizes coords j)) e,
          st.pairs ∙ ap (λ (j : ℕ). pad (length S) (stripes_to options sizes coords j)) e,
          st.entries ∙ ap (λ (j : ℕ). pad (length L) (list_to options sizes coords j)) e,
          st.packed ∙ ap (λ (j : ℕ). pad (length B) (bytes_to options sizes coords j)) e,
          st.numbers,
        )

  -- where the room is short, that is all that is told
  pub all_short : (t : List ℕ) (f : List Float) (s l b w : List ℕ) → roomy T F S L B W options sizes coords ≡ false
      → AllBuilt options sizes coords T F S L B W false t f s l b w
  unfolding AllBuilt
  all_short t f s l b w e = e
