-- The ways through building, each as a law. Assumes nothing.
use Rattle.std.specs.Prelude.{Ok, Err, None}
use Prim.Native.Nat.{ℕ, ◌*◌, ◌≤◌, ◌<◌}
use mathlib.Core.Path.{◌≡◌, refl, sym, ap}
use mathlib.Core.List.{List}
use mathlib.Core.Bool.{Bool, true, false, cond, ◌&&◌}
use lib.ListN.{length}
use lib.Dec.{leb, ltb}
use lib.Ieee.{Float}
use borrow.Author.Tests.{le-leb, leb-true, lt-leb, lt-ltb, le-ltb}
use Rattle.answers.specs.declared.Refusal.{Refusal}
use Rattle.answers.specs.declared.Refusal.TheVariants.{NoRoom}
use Rattle.room.specs.Room.{pad}
use Rattle.rings.specs.Checks.{Checked}
use Rattle.stripes_build.specs.declared.Stripes.{Stripes}
use Rattle.stripes_build.specs.declared.StripesStats.{StripesStats}
use Rattle.rings.specs.Ring.{segments}
use Rattle.stripes_count.specs.Count.{stripe_count}
use Rattle.stripes_index.specs.Index.{least_y, height_y, crosses, table_of, list_of, entries_of, fullest_of}
use Rattle.stripes_build.specs.Build.{StripesBuilt, striped, Outcome, zeroed, crosses_in, stats_of, indexed, from_threshold, when_sound, stripes_built_by}
use Rattle.stripes_build.specs.Inner.Fill.{filled_of}

module _ (ring : ℕ → Float) (n : ℕ) (least height : Float) (m : ℕ) (stripes list : List ℕ) where
  pub filled_fits : entries_of (crosses ring least height m) n m ≤ length list
      → filled_of ring n least height m stripes list
      ≡ (
        striped least height (record { segments = n; stripes = m; entries = entries_of (crosses ring least height m) n m; fullest = fullest_of (crosses ring least height m) n m }),
        pad (length stripes) (table_of (crosses ring least height m) n m),
        pad (length list) (list_of (crosses ring least height m) n m),
      )
  unfolding filled_of
  filled_fits h = rw (le-leb (entries_of (crosses ring least height m) n m) (length list) h)

  pub filled_short : length list < entries_of (crosses ring least height m) n m
      → filled_of ring n least height m stripes list ≡ zeroed (Err NoRoom) stripes list
  unfolding filled_of
  filled_short h = rw (lt-leb (entries_of (crosses ring least height m) n m) (length list) h)

module _ (ring : ℕ → Float) (n : ℕ) (stripes list : List ℕ) where
  pub indexed_few : stripe_count ring n ≤ 65536 → stripe_count ring n * 2 ≤ length stripes
      → indexed ring n stripes list ≡ filled_of ring n (least_y ring n) (height_y ring n) (stripe_count ring n) stripes list
  unfolding indexed filled_of
  indexed_few a b = rw (le-leb (stripe_count ring n) 65536 a, le-leb (stripe_count ring n * 2) (length stripes) b)

  pub indexed_many : 65536 < stripe_count ring n → indexed ring n stripes list ≡ zeroed (Err NoRoom) stripes list
  unfolding indexed
  indexed_many h = rw (lt-leb (stripe_count ring n) 65536 h)

  pub indexed_short : length stripes < stripe_count ring n * 2 → indexed ring n stripes list ≡ zeroed (Err NoRoom) stripes list
  unfolding indexed
  indexed_short h = rw (lt-leb (stripe_count ring n * 2) (length stripes) h, no (leb (stripe_count ring n) 65536))
    where
      no : (b : Bool) → (b && false) ≡ false
      no true = refl
      no false = refl

-- only the room's sizes count
pub indexed_room : (ring : ℕ → Float) (n : ℕ) (s s' l l' : List ℕ) → length s ≡ length s' → length l ≡ length l' → indexed ring n s l ≡ indexed ring n s' l'
unfolding indexed
indexed_room ring n s s' l l' a b = rw (a, b)

module _ (ring : ℕ → Float) (n threshold : ℕ) (stripes list : List ℕ) where
  pub from_under : n < threshold → from_threshold ring n threshold stripes list ≡ zeroed (Ok None) stripes list
  unfolding from_threshold
  from_under h = rw (lt-ltb n threshold h)

  pub from_reached : threshold ≤ n → from_threshold ring n threshold stripes list ≡ indexed ring n stripes list
  unfolding from_threshold
  from_reached h = rw (le-ltb n threshold h)

module _ (checked : Checked) (ring : ℕ → Float) (points threshold : ℕ) (stripes list : List ℕ) where
  pub built_faulty : (why : Refusal) → checked ≡ Err why → stripes_built_by checked ring points threshold stripes list ≡ (Err why, stripes, list)
  unfolding stripes_built_by
  built_faulty why e = rw e

  pub built_sound : checked ≡ Ok tt → stripes_built_by checked ring points threshold stripes list ≡ from_threshold ring (segments points) threshold stripes list
  unfolding stripes_built_by
  built_sound e = rw e

-- ---- what a successful building says
pub record Indexed (ring : ℕ → Float) (n : ℕ) (stripes list : List ℕ) (least height : Float) (stats : StripesStats) (s l : List ℕ) : Type 0 where
  pub few : stripe_count ring n ≤ 65536
  pub wide : stripe_count ring n * 2 ≤ length stripes
  pub roomy : entries_of (crosses_in ring n) n (stripe_count ring n) ≤ length list
  pub from : least ≡ least_y ring n
  pub tall : height ≡ height_y ring n
  pub counts : stats ≡ stats_of ring n
  pub table : s ≡ pad (length stripes) (table_of (crosses_in ring n) n (stripe_count ring n))
  pub numbers : l ≡ pad (length list) (list_of (crosses_in ring n) n (stripe_count ring n))

module _ (ring : ℕ → Float) (n : ℕ) (stripes list : List ℕ) (least height : Float) (stats : StripesStats) (s l : List ℕ) where
  indexed_is : indexed ring n stripes list ≡ (striped least height stats, s, l) → Indexed ring n stripes list least height stats s l
  unfolding indexed
  indexed_is e =
      go (leb (stripe_count ring n) 65536) (leb (stripe_count ring n * 2) (length stripes)) (leb (entries_of (crosses_in ring n) n (stripe_count ring n)) (length list)) refl refl refl e
    where
      never : (x y : List ℕ) → ◌≡◌ {A = Outcome} (Err NoRoom, x, y) (striped least height stats, s, l) → ⊥
      never x y w = let f : ◌≡◌ {A = StripesBuilt} (Err NoRoom) (striped least height stats) = ap (λ (o : Outcome). o.0) w in cc

      same : (a b : Float) (c : StripesStats) → striped a b c ≡ striped least height stats
          → ◌≡◌ {A = Stripes} (record { least = least; height = height; stats = stats }) (record { least = a; height = b; stats = c })
      same a b c w = cc

      first : (a b : Float) (c : StripesStats) → striped a b c ≡ striped least height stats → (least ≡ a) × (height ≡ b) × (stats ≡ c)
      first a b c w = let e = same a b c w in (ap (λ (x : Stripes). x.least) e, ap (λ (x : Stripes). x.height) e, ap (λ (x : Stripes). x.stats) e)

      go : (a b c : Bool) → leb (stripe_count ring n) 65536 ≡ a → leb (stripe_count ring n * 2) (length stripes) ≡ b
          → leb (entries_of (crosses_in ring n) n (stripe_count ring n)) (length list) ≡ c
          → ◌≡◌ {A = Outcome}
          (cond (a && b && c) (
            striped (least_y ring n) (height_y ring n) (stats_of ring n),
            pad (length stripes) (table_of (crosses_in ring n) n (stripe_count ring n)),
            pad (length list) (list_of (crosses_in ring n) n (stripe_count ring n)),
          )
          (zeroed (Err NoRoom) stripes list))
          (striped least height stats, s, l)
          → Indexed ring n stripes list least height stats s l
      go true true true p q r w =
          let f = first (least_y ring n) (height_y ring n) (stats_of ring n) (ap (λ (o : Outcome). o.0) w) in
          record {
            few = leb-true (stripe_count ring n) 65536 p;
            wide = leb-true (stripe_count ring n * 2) (length stripes) q;
            roomy = leb-true (entries_of (crosses_in ring n) n (stripe_count ring n)) (length list) r;
            from = f.0;
            tall = f.1;
            counts = f.2;
            table = sym (ap (λ (o : Outcome). o.1) w);
            numbers = sym (ap (λ (o : Outcome). o.2) w);
          }
      go true true false p q r w = absurd (never _ _ w)
      go true false c p q r w = absurd (never _ _ w)
      go false b c p q r w = absurd (never _ _ w)

  pub built_is : (checked : Checked) (points threshold : ℕ) → n ≡ segments points → stripes_built_by checked ring points threshold stripes list ≡ (striped least height stats, s, l)
      → (checked ≡ Ok tt) × Indexed ring n stripes list least height stats s l
  unfolding stripes_built_by from_threshold
  built_is checked points threshold same e = rw (← same) at (go checked (ltb (segments points) threshold) refl e)
    where
      refused : (why : Refusal) (x y : List ℕ) → ◌≡◌ {A = Outcome} (Err why, x, y) (striped least height stats, s, l) → ⊥
      refused why x y w = let f : ◌≡◌ {A = StripesBuilt} (Err why) (striped least height stats) = ap (λ (o : Outcome). o.0) w in cc

      under : (x y : List ℕ) → ◌≡◌ {A = Outcome} (Ok None, x, y) (striped least height stats, s, l) → ⊥
      under x y w = let f : ◌≡◌ {A = StripesBuilt} (Ok None) (striped least height stats) = ap (λ (o : Outcome). o.0) w in cc

      go : (k : Checked) (b : Bool) → checked ≡ k
          → when_sound k stripes list (cond b (zeroed (Ok None) stripes list) (indexed ring (segments points) stripes list)) ≡ (striped least height stats, s, l)
          → (checked ≡ Ok tt) × Indexed ring (segments points) stripes list least height stats s l
      go (Ok _) false p w = (p, rw same at (indexed_is (rw same w)))
      go (Ok _) true p w = absurd (under _ _ w)
      go (Err why) b p w = absurd (refused why _ _ w)
