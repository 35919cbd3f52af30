-- WHAT EACH STEP DOES TO `Timely`: a place is used, a place is passed, a value is carried, the zone is clean. (An opening: TimelyOpening.) Assumes nothing.
use mathlib.Core.Path.{◌≡◌, refl, sym, ap, ◌∙◌, subst}
use mathlib.Core.Logic.{◌≢◌, ◌⊎◌, inl, inr}
use mathlib.Core.List.{List, [], ◌∷◌}
use mathlib.Core.Option.{Option, none, some}
use Prim.Native.Nat.{ℕ, zero, suc, ◌+◌, ◌-◌, ◌*◌, ◌≤◌, ◌<◌}
use native.Mathlib.Decide.{dec_lt, ℕ_discrete}
use native.Mathlib.Omega.{arith}
use lib.ListN.{length}
use Rattle.record.specs.Record.{Rec}
use Rattle.ring_log.specs.Key.{Key, key≟}
use Rattle.ring_log.specs.Map.{Map, lookup, alter, Sorted, map_o}
use Rattle.ring_log.specs.Log.{Placed, placed, page_of, oldest, log_place}
use Rattle.ring_log.specs.Ring.{Chip, Ring, next, table, room}
use Rattle.ring_log.specs.Call.{Cursor, Looks, Live, Dead}
use Rattle.ring_log.specs.Wear.{age, ripe, ripes}
use Rattle.ring_log.specs.Timely.{log_end, Behind, Timely}
use Rattle.ring_log.proofs.MapLaws.{or_zero, some_inj, some≢none, lookup_here, lookup_there, lookup_above, lookup_same, lookup_other}
use Rattle.ring_log.proofs.MapMore.{total_alter}
use Rattle.ring_log.proofs.RingLaws.{next_le}
use Rattle.ring_log.proofs.LogLaws.{Stands}
use Rattle.ring_log.proofs.Clean.{run_stands}
use Rattle.ring_log.proofs.Steps.{Written, Spoilt, table_at_lem}
use Rattle.ring_log.proofs.WearLaws.{Under, ripe_yes, ripe_no, ripes_le, older, ripes_older, ripes_moved, count_copy}
use Rattle.ring_log.proofs.Append.{table_sorted, place, place_under, put_table, put_next, lost_table, lost_next}
use Rattle.ring_log.proofs.Carry.{carry_table}

-- ---- values at different places

-- each place has one value
abbrev Distinct : Map Placed → Type 0
Distinct m = (k j : Key) (a b : Placed) → lookup k m ≡ some a → lookup j m ≡ some b → a.0 ≡ b.0 → k ≡ j

-- what a key has in the rest it has in the whole
later : (p : Key × Placed) (m : Map Placed) → Sorted (p ∷ m) → (k : Key) (a : Placed) → lookup k m ≡ some a → lookup k (p ∷ m) ≡ some a
later p m s k a e = lookup_there k p m (λ d. some≢none (sym e ∙ rw d (lookup_above p.0 m s.0))) ∙ e

-- an age is that of one place
age_place : (e n : ℕ) (a b : Placed) → n ≤ 15 → a.0 < 15 * e + n → b.0 < 15 * e + n → age e n a ≡ age e n b → a.0 ≡ b.0
age_place e n a b i x y z = omega arith

-- the log place of a value is that of its age
age_spot : (B e n p : ℕ) (a : Placed) → 4 ≤ B → B ≤ e → n ≤ 15 → oldest B e ≤ a.0 → a.0 < 15 * e + n → age e n a + p ≡ log_end B n → a.0 ≡ log_place B e p
age_spot B e n p a b l i x y z = omega arith

spot_age : (B e n p : ℕ) (a : Placed) → 4 ≤ B → B ≤ e → n ≤ 15 → p < n + (B - 2) → a.0 ≡ log_place B e p → age e n a + p ≡ log_end B n
spot_age B e n p a b l i z q = omega arith

-- at most, and not as much: one less
less : (x y : ℕ) → x ≤ y → x ≢ y → suc x ≤ y
less x y l d = omega arith

module _ (e n : ℕ) where
  -- a value that isn't w + 1 places old is older than w exactly if it is older than w + 1
  same_ripe : (w : ℕ) (a : Placed) → age e n a ≢ suc w → ripe w e n a ≡ ripe (suc w) e n a
  same_ripe w a d = go (dec_lt (suc w) (age e n a))
    where
      go : Dec (suc w < age e n a) → ripe w e n a ≡ ripe (suc w) e n a
      go (yes l) = ripe_yes w e n a (omega arith) ∙ sym (ripe_yes (suc w) e n a l)
      go (no l) = ripe_no w e n a (omega arith) ∙ sym (ripe_no (suc w) e n a (omega arith))

  -- none has that age: the same count
  none_so_old : (w : ℕ) (m : Map Placed) → Sorted m → ((k : Key) (a : Placed) → lookup k m ≡ some a → age e n a ≢ suc w) → ripes w e n m ≡ ripes (suc w) e n m
  none_so_old w [] s d = refl
  none_so_old w (p ∷ m) s d =
      omega (arith, same_ripe w p.1 (d p.0 p.1 (lookup_here p.0 p m refl)), none_so_old w m s.1 (λ k a l. d k a (later p m s k a l)))

  -- AT MOST ONE VALUE has a given age
  pub ripes_step : n ≤ 15 → (w : ℕ) (m : Map Placed) → Sorted m → Distinct m → Under e n m → ripes w e n m ≤ ripes (suc w) e n m + 1
  ripes_step i w [] s d u = omega arith
  ripes_step i w (p ∷ m) s d u =
      go (ℕ_discrete (age e n p.1) (suc w))
      (ripes_step i w m s.1 (λ k j a b x y. d k j a b (later p m s k a x) (later p m s j b y)) (λ k a l. u k a (later p m s k a l)))
    where
      here : lookup p.0 (p ∷ m) ≡ some p.1
      here = lookup_here p.0 p m refl

      go : Dec (age e n p.1 ≡ suc w) → ripes w e n m ≤ ripes (suc w) e n m + 1 → ripes w e n (p ∷ m) ≤ ripes (suc w) e n (p ∷ m) + 1
      go (yes q) ih =
          omega (
            arith,
            ripe_yes w e n p.1 (omega arith),
            none_so_old w m s.1
                (λ k a l z.
                let x = later p m s k a l in
                let y : a.0 ≡ p.1.0 = age_place e n a p.1 i (u k a x) (u p.0 p.1 here) (z ∙ sym q) in
                some≢none (sym l ∙ ap (λ (i : Key). lookup i m) (d k p.0 a p.1 x here y) ∙ lookup_above p.0 m s.0)),
          )
      go (no q) ih = omega (arith, same_ripe w p.1 q)

  -- so of g ages at most g values have one
  ripes_steps : n ≤ 15 → (m : Map Placed) → Sorted m → Distinct m → Under e n m → (w g : ℕ) → ripes w e n m ≤ ripes (w + g) e n m + g
  ripes_steps i m s d u w zero = omega (arith, ap (λ (x : ℕ). ripes x e n m) {x = w} {y = w + 0} (omega arith))
  ripes_steps i m s d u w (suc g) =
      omega (
        arith,
        ripes_steps i m s d u w g,
        ripes_step i (w + g) m s d u,
        ap (λ (x : ℕ). ripes x e n m) {x = suc (w + g)} {y = w + suc g} (omega arith),
      )

  -- no value is older than w, by the count and one by one
  pub ripes_none : (w : ℕ) (m : Map Placed) → Sorted m → ((k : Key) (a : Placed) → lookup k m ≡ some a → age e n a ≤ w) → ripes w e n m ≡ 0
  ripes_none w [] s d = refl
  ripes_none w (p ∷ m) s d =
      omega (arith, ripe_no w e n p.1 (d p.0 p.1 (lookup_here p.0 p m refl)), ripes_none w m s.1 (λ k a l. d k a (later p m s k a l)))

  pub none_ripe : (w : ℕ) (m : Map Placed) → Sorted m → ripes w e n m ≡ 0 → (k : Key) (a : Placed) → lookup k m ≡ some a → age e n a ≤ w
  none_ripe w m s z k a l = go (dec_lt w (age e n a))
    where
      go : Dec (w < age e n a) → age e n a ≤ w
      go (no g) = omega arith
      go (yes g) =
          let x : or_zero (ripe w e n) (lookup k m) ≡ 1 = ap (or_zero (ripe w e n)) l ∙ ripe_yes w e n a g in
          absurd (omega (arith, total_alter (ripe w e n) k none m s, x))

  -- a record: of the values older than w there are no more
  ripes_write : (m : Map Placed) → Sorted m → Under e n m → n < 15 → (k : Key) (v : Option (List ℕ)) (w : ℕ)
      → ripes (suc w) e (suc n) (alter k (map_o (placed (15 * e + n)) v) m) ≤ ripes w e n m
  ripes_write m s u l k v w =
      omega (arith, ripes_older e n m s u l w, total_alter (ripe (suc w) e (suc n)) k (map_o (placed (15 * e + n)) v) m s, new v)
    where
      new : (v : Option (List ℕ)) → or_zero (ripe (suc w) e (suc n)) (map_o (placed (15 * e + n)) v) ≡ 0
      new none = refl
      new (some x) = ripe_no (suc w) e (suc n) (placed (15 * e + n) x) (omega arith)

-- ---- BY THE ROWS: the head is block number e, with n pages, and the rows are m
module _ (B e : ℕ) where
  abbrev pub BehindBy : ℕ → ℕ → Map Placed → Type 0
  BehindBy p n m = (p ≤ log_end B n) × ((k : Key) (a : Placed) → lookup k m ≡ some a → age e n a + p ≤ log_end B n)

  abbrev pub BoundBy : ℕ → ℕ → ℕ → Map Placed → Type 0
  BoundBy p d n m = (w : ℕ) → w + p ≤ log_end B n → 8 * (n + ripes w e n m) + 7 * w ≤ p + 7 * log_end B n + d

  abbrev pub TimelyBy : ℕ → ℕ → ℕ → Map Placed → Type 0
  TimelyBy p d n m = BehindBy p n m × BoundBy p d n m

  module _ (big : 4 ≤ B) (p n : ℕ) (m : Map Placed) (s : Sorted m) where
    -- none is older than the cursor's place
    pub behind_none : BehindBy p n m → (w : ℕ) → log_end B n ≤ w + p → ripes w e n m ≡ 0
    behind_none b w l = ripes_none e n w m s (λ k a z. omega (arith, b.1 k a z))

    -- the head has no more pages than the cursor has passed places, but for d
    behind_gap : (d : ℕ) → TimelyBy p d n m → 8 * n ≤ 8 * p + d
    behind_gap d (b, f) =
        let w : ℕ = log_end B n - p in
        let x : w + p ≤ log_end B n = omega (arith, b.0) in
        omega (arith, f w x, behind_none b w (omega (arith, b.0)), b.0)

    -- THE ZONE IS CLEAN, but for z places: then the cursor is in time, whatever was before
    pub zone_by : n ≤ 15 → Distinct m → Under e n m → length m ≤ room B → BehindBy p n m → (z : ℕ) → n + (B - 2) ≤ p + z → TimelyBy p (8 * z) n m
    zone_by i d u few b z l = (b, go)
      where
        go : BoundBy p (8 * z) n m
        go w y =
            let g : ℕ = log_end B n - (w + p) in
            let x : ripes (w + g) e n m ≡ 0 = behind_none b (w + g) (omega arith) in
            omega (arith, few, ripes_le w e n m, ripes_steps e n i m s d u w g, x)

    -- the cursor is a place on, over no value
    pub pass_by : (d : ℕ) → BehindBy (suc p) n m → TimelyBy p d n m → TimelyBy (suc p) (d - 1) n m
    pass_by d b (a, f) = (b, λ w l. omega (arith, f w (omega arith)))

    -- ---- A PLACE IS USED: no value stands before the cursor

    -- by a record
    pub record_behind : Under e n m → n < 15 → BehindBy p n m → (k : Key) (v : Option (List ℕ)) → BehindBy p (suc n) (alter k (map_o (placed (15 * e + n)) v) m)
    record_behind u l t k v = (omega (arith, t.0), λ j a z. rows j a z (key≟ j k))
      where
        rows : (j : Key) (a : Placed) → lookup j (alter k (map_o (placed (15 * e + n)) v) m) ≡ some a → Dec (j ≡ k) → age e (suc n) a + p ≤ log_end B (suc n)
        rows j a z (yes q) = new v (sym (lookup_same k (map_o (placed (15 * e + n)) v) m s) ∙ ap (λ (i : Key). lookup i (alter k (map_o (placed (15 * e + n)) v) m)) (sym q) ∙ z)
          where
            new : (v : Option (List ℕ)) → map_o (placed (15 * e + n)) v ≡ some a → age e (suc n) a + p ≤ log_end B (suc n)
            new none y = absurd (some≢none (sym y))
            new (some x) y = let i : 15 * e + n ≡ a.0 = ap (λ (b : Placed). b.0) (some_inj y) in omega (arith, t.0)
        rows j a z (no q) =
            let y : lookup j m ≡ some a = sym (lookup_other j k (map_o (placed (15 * e + n)) v) m q) ∙ z in
            omega (arith, t.1 j a y, older e n a l (u j a y))

    -- by the value that stands at the cursor's place
    pub carry_behind : Under e n m → n < 15 → BehindBy p n m → Distinct m → (k : Key) (a : Placed) (v : List ℕ) → lookup k m ≡ some a → age e n a + p ≡ log_end B n
        → p < log_end B n → BehindBy (suc p) (suc n) (alter k (some (placed (15 * e + n) v)) m)
    carry_behind u l t dis k a v q at i = (omega arith, λ j b z. rows j b z (key≟ j k))
      where
        rows : (j : Key) (b : Placed) → lookup j (alter k (some (placed (15 * e + n) v)) m) ≡ some b → Dec (j ≡ k) → age e (suc n) b + suc p ≤ log_end B (suc n)
        rows j b z (yes y) =
            let x : 15 * e + n ≡ b.0 =
            ap (λ (b : Placed). b.0)
            (some_inj
            (sym (lookup_same k (some (placed (15 * e + n) v)) m s) ∙ ap (λ (i : Key). lookup i (alter k (some (placed (15 * e + n) v)) m)) (sym y) ∙ z)) in
            omega arith
        rows j b z (no y) =
            let g : lookup j m ≡ some b = sym (lookup_other j k (some (placed (15 * e + n) v)) m y) ∙ z in
            let ne : age e n b + p ≢ log_end B n =
            λ x. y (sym (dis k j a b q g (age_place e n a b (omega (arith, l)) (u k a q) (u j b g) (same (age e n a) (age e n b) p at x)))) in
            further (age e n b) (less (age e n b + p) (log_end B n) (t.1 j b g) ne) (older e n b l (u j b g))
          where
            same : (x y i : ℕ) → x + i ≡ log_end B n → y + i ≡ log_end B n → x ≡ y
            same x y i f g = omega arith

            further : (x : ℕ) → suc (x + p) ≤ log_end B n → age e (suc n) b ≡ x + 1 → age e (suc n) b + suc p ≤ log_end B (suc n)
            further x f g = omega arith

    -- ---- and the cursor is in time
    module _ (u : Under e n m) (l : n < 15) (d : ℕ) (t : TimelyBy p d n m) where
      -- by a page that says nothing
      pub spoilt_by : length m ≤ room B → TimelyBy p (d + 8) (suc n) m
      spoilt_by few = ((omega (arith, t.0.0), λ k a z. let x = u k a z in omega (arith, t.0.1 k a z)), go)
        where
          go : BoundBy p (d + 8) (suc n) m
          go zero z = omega (arith, behind_gap d t, few, ripes_le 0 e (suc n) m)
          go (suc w) z = omega (arith, t.1 w (omega arith), ripes_older e n m s u l w)

      -- by a record
      pub record_by : (k : Key) (v : Option (List ℕ)) → length (alter k (map_o (placed (15 * e + n)) v) m) ≤ room B
          → TimelyBy p (d + 8) (suc n) (alter k (map_o (placed (15 * e + n)) v) m)
      record_by k v few = (record_behind u l t.0 k v, go)
        where
          go : BoundBy p (d + 8) (suc n) (alter k (map_o (placed (15 * e + n)) v) m)
          go zero z = omega (arith, behind_gap d t, few, ripes_le 0 e (suc n) (alter k (map_o (placed (15 * e + n)) v) m))
          go (suc w) z = omega (arith, t.1 w (omega arith), ripes_write e n m s u l k v w)

      -- by the value that stands at the cursor's place
      pub carry_by : Distinct m → (k : Key) (a : Placed) (v : List ℕ) → lookup k m ≡ some a → age e n a + p ≡ log_end B n → length m ≤ room B → p < log_end B n
          → TimelyBy (suc p) (d - 1) (suc n) (alter k (some (placed (15 * e + n) v)) m)
      carry_by dis k a v q at few i = (carry_behind u l t.0 dis k a v q at i, go)
        where
          count : length (alter k (some (placed (15 * e + n) v)) m) ≡ length m
          count = count_copy k a (placed (15 * e + n) v) m s q

          go : BoundBy (suc p) (d - 1) (suc n) (alter k (some (placed (15 * e + n) v)) m)
          go zero z = omega (arith, behind_gap d t, few, count, ripes_le 0 e (suc n) (alter k (some (placed (15 * e + n) v)) m))
          go (suc w) z = omega (arith, t.1 w (omega arith), ripes_moved e n m s u l k a v q w (omega arith))

-- ---- OF A CHIP
module _ (B : ℕ) (big : 4 ≤ B) where
  -- by its rows
  pub behind_rows : (c : Chip) (h p : ℕ) → Behind B c h p → BehindBy B (h + B) p (next c h) (table B c)
  behind_rows c h p b = (b.inside, b.none_before)

  pub rows_behind : (c : Chip) (h p n : ℕ) (m : Map Placed) → next c h ≡ n → table B c ≡ m → BehindBy B (h + B) p n m → Behind B c h p
  rows_behind c h p n m en em t =
      let x : BehindBy B (h + B) p (next c h) (table B c) =
      subst (λ (i : ℕ). BehindBy B (h + B) p i (table B c)) (sym en) (subst (BehindBy B (h + B) p n) (sym em) t) in
      record { inside = x.0; none_before = x.1 }

  pub timely_rows : (c : Chip) (h p d : ℕ) → Timely B c h p d → TimelyBy B (h + B) p d (next c h) (table B c)
  timely_rows c h p d t = (behind_rows c h p t.behind, t.bound)

  pub rows_timely : (c : Chip) (h p d n : ℕ) (m : Map Placed) → next c h ≡ n → table B c ≡ m → TimelyBy B (h + B) p d n m → Timely B c h p d
  rows_timely c h p d n m en em t =
      let x : BoundBy B (h + B) p d (next c h) (table B c) =
      subst (λ (i : ℕ). BoundBy B (h + B) p d i (table B c)) (sym en) (subst (BoundBy B (h + B) p d n) (sym em) t.1) in
      record { behind = rows_behind c h p n m en em t.0; bound = x }

  -- the same rows and the same next place: what was in time is
  pub same_timely : (c c' : Chip) (h p d : ℕ) → next c' h ≡ next c h → table B c' ≡ table B c → Timely B c h p d → Timely B c' h p d
  same_timely c c' h p d en em t = rows_timely c' h p d (next c h) (table B c) en em (timely_rows c h p d t)

  -- a larger d
  pub timely_more : (c : Chip) (h p d d' : ℕ) → d ≤ d' → Timely B c h p d → Timely B c h p d'
  timely_more c h p d d' l t = record { behind = t.behind; bound = λ w z. omega (arith, t.bound w z) }

  -- the cursor may be moved on as far as no value stands before it
  pub timely_on : (c : Chip) (h p q d : ℕ) → p ≤ q → Behind B c h q → Timely B c h p d → Timely B c h q d
  timely_on c h p q d l b t = record { behind = b; bound = λ w z. omega (arith, t.bound w (omega arith)) }

  module _ (c : Chip) (h : ℕ) (ring : Ring B c h) where
    stands : (k : Key) (a : Placed) → lookup k (table B c) ≡ some a → Stands B c.recs (oldest B (h + B)) (15 * (h + B) + 15 - oldest B (h + B)) k a
    stands k a l = run_stands B c.recs (h + B) (15 * (h + B) + 15) k a (ap (lookup k) (sym (table_at_lem B big c h ring)) ∙ l)

    -- each place has one value
    table_distinct : Distinct (table B c)
    table_distinct k j a b x y e =
        let v = stands k a x in
        let w = stands j b y in
        sym v.key ∙ ap (λ (r : Rec). r.key) (some_inj (sym v.there ∙ ap (λ (i : ℕ). c.recs (page_of B i)) e ∙ w.there)) ∙ w.key

    sorted : Sorted (table B c)
    sorted = table_sorted B big c h ring

    under : Under (h + B) (next c h) (table B c)
    under = place_under B big c c h ring

    module _ (p : ℕ) where
      -- THE ZONE IS CLEAN, but for z places
      pub zone_timely : length (table B c) ≤ room B → Behind B c h p → (z : ℕ) → next c h + (B - 2) ≤ p + z → Timely B c h p (8 * z)
      zone_timely few b z l =
          rows_timely c h p (8 * z) (next c h) (table B c) refl refl
          (zone_by B (h + B) big p (next c h) (table B c) sorted (next_le c h 15) table_distinct under few (behind_rows c h p b) z l)

      -- a dead place is passed
      module _ (l : p < log_end B (next c h)) (dead : Dead B c (log_place B (h + B) p)) where
        pub pass_behind : Behind B c h p → Behind B c h (suc p)
        pass_behind b = record { inside = l; none_before = λ k a e. go k a e (ℕ_discrete a.0 (log_place B (h + B) p)) }
          where
            swap : (x : ℕ) → suc (x + p) ≤ log_end B (next c h) → x + suc p ≤ log_end B (next c h)
            swap x f = omega arith

            go : (k : Key) (a : Placed) → lookup k (table B c) ≡ some a → Dec (a.0 ≡ log_place B (h + B) p) → age (h + B) (next c h) a + suc p ≤ log_end B (next c h)
            go k a e (yes q) =
                let w = stands k a e in
                absurd
                (dead w.rec a (ap (λ (i : ℕ). c.recs (page_of B i)) (sym q) ∙ w.there) (subst (λ (i : Key). lookup i (table B c) ≡ some a) (sym w.key) e) q)
            go k a e (no q) =
                let w = stands k a e in
                let x : suc (age (h + B) (next c h) a + p) ≤ log_end B (next c h) =
                less (age (h + B) (next c h) a + p) (log_end B (next c h)) (b.none_before k a e)
                (λ z. q (age_spot B (h + B) (next c h) p a big (omega arith) (next_le c h 15) w.from (under k a e) z)) in
                swap (age (h + B) (next c h) a) x

        pub pass_timely : (d : ℕ) → Timely B c h p d → Timely B c h (suc p) (d - 1)
        pass_timely d t =
            rows_timely c h (suc p) (d - 1) (next c h) (table B c) refl refl
            (pass_by B (h + B) big p (next c h) (table B c) sorted d (behind_rows c h (suc p) (pass_behind t.behind)) (timely_rows c h p d t))

    -- A PLACE IS USED
    module _ (c' : Chip) (free : next c h < 15) where
      -- by a record
      module _ (x : Rec) (w : Written B (place B big c h) x c c') (p : ℕ) where
        pub recorded_behind : Behind B c h p → Behind B c' h p
        recorded_behind b =
            rows_behind c' h p (suc (next c h)) _ (put_next B big c c' h ring free x w) (put_table B big c c' h ring free x w)
            (record_behind B (h + B) big p (next c h) (table B c) sorted under free (behind_rows c h p b) x.key x.what)

        pub recorded_timely : (d : ℕ) → length (table B c') ≤ room B → Timely B c h p d → Timely B c' h p (d + 8)
        recorded_timely d few t =
            rows_timely c' h p (d + 8) (suc (next c h)) _ (put_next B big c c' h ring free x w) (put_table B big c c' h ring free x w)
            (record_by B (h + B) big p (next c h) (table B c) sorted under free d (timely_rows c h p d t) x.key x.what
            (omega (arith, few, ap length (put_table B big c c' h ring free x w))))

      -- or it was cut, and the page says nothing
      pub spoilt_timely : Spoilt B (place B big c h) c c' → (p d : ℕ) → length (table B c) ≤ room B → Timely B c h p d → Timely B c' h p (d + 8)
      spoilt_timely w p d few t = go (lost_next B big c c' h ring free w)
        where
          go : (next c' h ≡ next c h) ⊎ (next c' h ≡ suc (next c h)) → Timely B c' h p (d + 8)
          go (inl e) = timely_more c' h p d (d + 8) (omega arith) (same_timely c c' h p d e (lost_table B big c c' h ring free w) t)
          go (inr e) =
              rows_timely c' h p (d + 8) (suc (next c h)) (table B c) e (lost_table B big c c' h ring free w)
              (spoilt_by B (h + B) big p (next c h) (table B c) sorted under free d (timely_rows c h p d t) few)

      -- by the value at the cursor
      module _ (u : Cursor) (looks : Looks B u (next c h)) (r : Rec) (a : Placed) (live : Live B c (log_place B (h + B) u.at) r a) (w : Written B (place B big c h) r c c') where
        at_cursor : age (h + B) (next c h) a + u.at ≡ log_end B (next c h)
        at_cursor = spot_age B (h + B) (next c h) u.at a big (omega arith) (next_le c h 15) (omega (arith, looks.zone)) live.stands

        pub carried_behind : Behind B c h u.at → Behind B c' h (suc u.at)
        carried_behind b =
            rows_behind c' h (suc u.at) (suc (next c h)) _ (put_next B big c c' h ring free r w) (carry_table B big u c c' h ring free looks r a live w)
            (carry_behind B (h + B) big u.at (next c h) (table B c) sorted under free (behind_rows c h u.at b) table_distinct r.key a a.1 live.row at_cursor
            (omega (arith, looks.zone)))

        pub carried_timely : (d : ℕ) → length (table B c) ≤ room B → Timely B c h u.at d → Timely B c' h (suc u.at) (d - 1)
        carried_timely d few t =
            rows_timely c' h (suc u.at) (d - 1) (suc (next c h)) _ (put_next B big c c' h ring free r w) (carry_table B big u c c' h ring free looks r a live w)
            (carry_by B (h + B) big u.at (next c h) (table B c) sorted under free d (timely_rows c h u.at d t) table_distinct r.key a a.1 live.row at_cursor few
            (omega (arith, looks.zone)))
