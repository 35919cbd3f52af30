-- The opening of the next block, as a loop: its invariant, what keeps it, and what the seal makes of it.
-- The chip before was c₀, with head h; place t of the oldest block is the next to be looked at, and place s of the spare the next to be written.
-- Assumes nothing.
use mathlib.Core.Path.{◌≡◌, refl, sym, ap, ◌∙◌}
use mathlib.Core.Logic.{◌≢◌, ◌⊎◌, inl, inr}
use mathlib.Core.List.{List}
use mathlib.Core.Option.{none, some}
use mathlib.Core.Bool.{Bool, true, false}
use Prim.Native.Nat.{ℕ, suc, ◌+◌, ◌-◌, ◌*◌, ◌/◌, ◌%◌, ◌≤◌, ◌<◌}
use native.Mathlib.Nat.{mod-eq_of_lt}
use native.Mathlib.Decide.{ℕ_discrete}
use native.Mathlib.Omega.{arith}
use lib.ListN.{length}
use Rattle.record.specs.Record.{Rec}
use Rattle.ring_log.specs.Key.{Key}
use Rattle.ring_log.specs.Map.{Map, lookup, alter}
use Rattle.ring_log.specs.Log.{Placed, placed, page_of, oldest, run, bytes, pages, FIRST, U}
use Rattle.ring_log.specs.Ring.{Chip, sealed, spare, Later, Ring, next, table, map_of, room, Ready}
use Rattle.ring_log.specs.Call.{Page, Block}
use Rattle.ring_log.specs.Wear.{age, ages, phi, potential, ripes}
use Rattle.ring_log.specs.Opening.{Fresh, From, fresh, Opening}
use Rattle.ring_log.proofs.MapLaws.{some≢none}
use Rattle.ring_log.proofs.RingLaws.{round_later, round_first, next_is}
use Rattle.ring_log.proofs.Steps.{Written, Free, run_write, copy_bytes, spare_page, table_at_lem, wrote, block_later, block_ring, block_run, block_table, block_map, page_block_only, in_spare, unsealed_map, seal_ring}
use Rattle.ring_log.proofs.WearLaws.{Under, ages_turn, ages_moved, ripes_turn, ripes_moved, count_copy, phi_moved}
use Rattle.ring_log.proofs.Window.{page_block, page_unsealed, page_inj, page_lt}
use Rattle.ring_log.proofs.LogLaws.{Stands}
use Rattle.ring_log.proofs.Index.{pages_length, same_place}
use Rattle.ring_log.proofs.Clean.{run_sorted, run_stands, run_from, skip_none, skip_dead, copied}
use Rattle.ring_log.proofs.Potential.{block_next, block_potential}
use Rattle.ring_log.proofs.Turn.{Turned, turned_pages, turned_bytes, turned_length, turned_ages, turned_ripes, seal_turned}

-- a page with a record is not blank
pub said_full : (c : Chip) (p : ℕ) (r : Rec) → c.recs p ≡ some r → c.full p ≡ true
said_full c p r e = go (c.full p) refl
  where
    go : (b : Bool) → c.full p ≡ b → c.full p ≡ true
    go true d = d
    go false d = absurd (some≢none (sym e ∙ c.honest p d))

module _ (B : ℕ) (big : 4 ≤ B) (h : ℕ) (c₀ : Chip) where
  -- ---- it begins: the run is the table of before

  begun : (c : Chip) → Ring B c h → Later B c h ⊎ Fresh B c h → ((p : ℕ) → p / 16 ≡ spare B h → c.full p ≡ false)
      → run B c.recs (h + B) (fresh B h) ≡ table B c₀ → map_of B c ≡ map_of B c₀ → potential B c ≡ potential B c₀ → table B c ≡ table B c₀ → next c h ≡ next c₀ h
      → Opening B h c₀ c (oldest B (h + B)) (fresh B h)
  unfolding map_of
  begun c r k blank same chip still rows here =
      record {
        ring = r;
        round = k;
        unsealed = blank (16 * spare B h + 15) (let z : (16 * spare B h + 15) / 16 ≡ spare B h = omega arith in z);
        blank = λ u x y. blank (page_of B u) (in_spare B big h u (omega arith));
        dense = λ u x y. absurd (omega arith);
        copies = omega arith;
        fewer = omega arith;
        inside = omega arith;
        from = run_from B c.recs (h + B) (fresh B h);
        memory = ap bytes same;
        chip = chip;
        still = still;
        same = rows;
        here = here;
        older = λ few.
            let q : phi (B - 2) (fresh B h - fresh B h) (ages (h + B + 1) (fresh B h - fresh B h) (run B c.recs (h + B) (fresh B h)))
            ≡ phi (B - 2) 0 (ages (h + B + 1) FIRST (run B c.recs (h + B) (fresh B h))) =
            ap (λ (x : ℕ). phi (B - 2) x (ages (h + B + 1) x (run B c.recs (h + B) (fresh B h)))) none in
            omega (arith, q, ages_turn (h + B) 15 (run B c.recs (h + B) (fresh B h)) (run_sorted B c.recs (h + B) (fresh B h)) under refl, ap (ages (h + B) 15) same);
        ripened = λ w l.
            let q : ripes (w + (fresh B h - fresh B h)) (h + B + 1) (fresh B h - fresh B h) (run B c.recs (h + B) (fresh B h))
            ≡ ripes (w + 0) (h + B + 1) FIRST (run B c.recs (h + B) (fresh B h)) =
            ap (λ (x : ℕ). ripes (w + x) (h + B + 1) x (run B c.recs (h + B) (fresh B h))) none in
            let y : ripes (w + 0) (h + B + 1) FIRST (run B c.recs (h + B) (fresh B h)) ≡ ripes w (h + B + 1) FIRST (run B c.recs (h + B) (fresh B h)) =
            ap (λ (x : ℕ). ripes x (h + B + 1) FIRST (run B c.recs (h + B) (fresh B h))) {x = w + 0} {y = w} (omega arith) in
            omega (
              arith,
              q,
              y,
              ripes_turn (h + B) 15 (run B c.recs (h + B) (fresh B h)) (run_sorted B c.recs (h + B) (fresh B h)) under refl w,
              ap (ripes w (h + B) 15) same,
            );
        count = ap length same;
      }
    where
      none : fresh B h - fresh B h ≡ 0
      none = omega arith

      under : Under (h + B) 15 (run B c.recs (h + B) (fresh B h))
      under k a l = let w : Stands B c.recs (oldest B (h + B)) (fresh B h - oldest B (h + B)) k a = run_stands B c.recs (h + B) (fresh B h) k a l in omega arith

  -- the oldest block is sealed, and the spare was erased
  pub opening_erased : (c : Chip) → Ring B c₀ h → sealed c₀ ((h + 2) % B) ≡ true → Block (spare B h) c₀ c → ((p : ℕ) → p / 16 ≡ spare B h → c.full p ≡ false)
      → Opening B h c₀ c (oldest B (h + B)) (fresh B h)
  opening_erased c r t w blank =
      let f : Later B c₀ h = round_later B big c₀ h r t in
      begun c (block_ring B big c₀ c h r w f) (inl (block_later B big c₀ c h r w f)) blank
      (block_run B big c₀ c h r w (fresh B h) (omega arith) ∙ sym (table_at_lem B big c₀ h r))
      (block_map B big c₀ c h r w f)
      (block_potential B big c₀ c h r w f)
      (block_table B big c₀ c h r w f)
      (block_next B big c₀ c h r.inside w)

  -- it is not: the spare was never used
  pub opening_fresh : Ring B c₀ h → sealed c₀ ((h + 2) % B) ≡ false → Opening B h c₀ c₀ (oldest B (h + B)) (fresh B h)
  opening_fresh r t = go (round_first B big c₀ h r t)
    where
      go : Fresh B c₀ h → Opening B h c₀ c₀ (oldest B (h + B)) (fresh B h)
      go (l, f) =
          let q : spare B h ≡ h + 1 = mod-eq_of_lt (let z : h + 1 < B = omega arith in z) in
          begun c₀ r (inr (l, f)) (λ p e. f.above p (omega arith) (omega arith)) (sym (table_at_lem B big c₀ h r)) refl refl refl refl

  -- ---- one place of the oldest block

  turned : (c : Chip) (t s : ℕ) → t < oldest B (h + B) + 15 → From (run B c.recs (h + B) s) (suc t) → Opening B h c₀ c t s → Opening B h c₀ c (suc t) s
  turned c t s l f o =
      record {
        ring = o.ring;
        round = o.round;
        unsealed = o.unsealed;
        blank = o.blank;
        dense = o.dense;
        copies = o.copies;
        fewer = omega (arith, o.fewer);
        inside = omega arith;
        from = f;
        memory = o.memory;
        chip = o.chip;
        still = o.still;
        same = o.same;
        here = o.here;
        older = o.older;
        ripened = o.ripened;
        count = o.count;
      }

  -- it says nothing
  pub opening_none : (c : Chip) (t s : ℕ) → t < oldest B (h + B) + 15 → c.recs (page_of B t) ≡ none → Opening B h c₀ c t s → Opening B h c₀ c (suc t) s
  opening_none c t s l at o = turned c t s l (skip_none B c.recs (h + B) s t at o.from) o

  -- its record is not live: the row of its key stands elsewhere
  pub opening_dead : (c : Chip) (t s : ℕ) (r : Rec) → t < oldest B (h + B) + 15 → c.recs (page_of B t) ≡ some r
      → ((a : Placed) → lookup r.key (run B c.recs (h + B) s) ≡ some a → a.0 ≢ t) → Opening B h c₀ c t s → Opening B h c₀ c (suc t) s
  opening_dead c t s r l at dead o = turned c t s l (skip_dead B c.recs (h + B) s t r at dead o.from) o

  -- a record in the oldest block: then the ring is beyond its first round
  pub opening_later : (c : Chip) (t s : ℕ) (r : Rec) → oldest B (h + B) ≤ t → t < oldest B (h + B) + 15 → c.recs (page_of B t) ≡ some r → Opening B h c₀ c t s → Later B c h
  opening_later c t s r a l at o = go o.round
    where
      go : Later B c h ⊎ Fresh B c h → Later B c h
      go (inl f) = f
      go (inr (b, f)) =
          let q : t / 15 ≡ h + 2 = omega arith in
          let p : page_of B t / 16 ≡ h + 2 = page_block B t ∙ ap (λ (x : ℕ). x % B) q ∙ mod-eq_of_lt b in
          absurd (some≢none (sym at ∙ c.honest (page_of B t) (f.above (page_of B t) (omega arith) (omega (arith, page_lt B t (omega arith))))))

  -- the code compares pages: the row of the record's key stands on this very page, so at this very place
  pub same_row : (c : Chip) (t s : ℕ) (k : Key) (a : Placed) → oldest B (h + B) ≤ t → t < oldest B (h + B) + 15 → Opening B h c₀ c t s
      → lookup k (run B c.recs (h + B) s) ≡ some a → page_of B a.0 ≡ page_of B t → a.0 ≡ t
  same_row c t s k a low l o e p =
      let w : Stands B c.recs (oldest B (h + B)) (s - oldest B (h + B)) k a = run_stands B c.recs (h + B) s k a e in
      same_place B (oldest B (h + B)) a.0 t w.from (omega (arith, w.below, o.fewer)) low (omega arith) p

  -- the page that a copy goes to is blank
  pub copy_blank : (c : Chip) (t s : ℕ) → t < oldest B (h + B) + 15 → Opening B h c₀ c t s → c.full (page_of B s) ≡ false
  copy_blank c t s l o = o.blank s (omega arith) (omega (arith, o.fewer))

  -- a live value is copied
  module _ (c c' : Chip) (t s : ℕ) (r x : Rec) (a : Placed)
      (low : oldest B (h + B) ≤ t) (l : t < oldest B (h + B) + 15) (at : c.recs (page_of B t) ≡ some r) (live : lookup r.key (run B c.recs (h + B) s) ≡ some a) (here : a.0 ≡ t)
      (o : Opening B h c₀ c t s) where
    place : s / 15 ≡ h + B + 1
    place = omega (arith, o.copies, o.fewer)

    only : Page (page_of B s) c c' → Block (spare B h) c c'
    only w = page_block_only B big c c' (spare B h) (page_of B s) (in_spare B big h s place) w

    -- cut, and it says what was meant or nothing, blank or not: the map stays
    pub copy_cut : Page (page_of B s) c c' → (Ring B c' h) × (map_of B c' ≡ map_of B c₀)
    copy_cut w =
        let f : Later B c h = opening_later c t s r low l at o in
        (block_ring B big c c' h o.ring (only w) f, block_map B big c c' h o.ring (only w) f ∙ o.chip)

    -- so do the rows and the next place
    pub copy_rows : Page (page_of B s) c c' → (table B c' ≡ table B c₀) × (next c' h ≡ next c₀ h)
    copy_rows w =
        let f : Later B c h = opening_later c t s r low l at o in
        (block_table B big c c' h o.ring (only w) f ∙ o.same, block_next B big c c' h o.ring.inside (only w) ∙ o.here)

    -- and so does the potential
    pub copy_still : Page (page_of B s) c c' → potential B c' ≡ potential B c₀
    copy_still w = block_potential B big c c' h o.ring (only w) (opening_later c t s r low l at o) ∙ o.still

    module _ (key : x.key ≡ r.key) (what : x.what ≡ some a.1) (w : Written B s x c c') where
      -- for the index: `pages_replace`
      pub grown : run B c'.recs (h + B) (suc s) ≡ alter r.key (some (placed s a.1)) (run B c.recs (h + B) s)
      grown =
          run_write B c.recs c'.recs (h + B) s x (omega (arith, o.copies)) (omega (arith, o.copies, o.fewer)) (wrote B big s x c c' w)
          ∙ rw (key, what)

      abbrev n : ℕ
      n = s - fresh B h

      abbrev m : Map Placed
      m = run B c.recs (h + B) s

      spot : 15 * (h + B + 1) + n ≡ s
      spot = omega (arith, o.copies)

      -- the copy, by its place of the next block
      grown_at : run B c'.recs (h + B) (suc s) ≡ alter r.key (some (placed (15 * (h + B + 1) + n) a.1)) m
      grown_at = grown ∙ ap (λ (x : ℕ). alter r.key (some (placed x a.1)) m) (sym spot)

      under : Under (h + B + 1) n m
      under k b e = let w : Stands B c.recs (oldest B (h + B)) (s - oldest B (h + B)) k b = run_stands B c.recs (h + B) s k b e in omega (arith, w.below, spot)

      short : n < 15
      short = omega (arith, o.fewer)

      one_more : suc s - fresh B h ≡ suc n
      one_more = omega (arith, o.copies)

      -- it was among the oldest
      old : U * (B - 2) + n < age (h + B + 1) n a
      old = omega arith

      turn : length (table B c₀) ≤ room B → phi (B - 2) (suc s - fresh B h) (ages (h + B + 1) (suc s - fresh B h) (run B c'.recs (h + B) (suc s))) ≤ ages (h + B) 15 (table B c₀)
      turn few =
          let q : phi (B - 2) (suc s - fresh B h) (ages (h + B + 1) (suc s - fresh B h) (run B c'.recs (h + B) (suc s)))
          ≡ phi (B - 2) (suc n) (ages (h + B + 1) (suc n) (alter r.key (some (placed (15 * (h + B + 1) + n) a.1)) m)) =
          ap (λ (x : ℕ). phi (B - 2) x (ages (h + B + 1) x (run B c'.recs (h + B) (suc s)))) one_more
          ∙ ap (λ (y : Map Placed). phi (B - 2) (suc n) (ages (h + B + 1) (suc n) y)) grown_at in
          let y = ages_moved (h + B + 1) n m (run_sorted B c.recs (h + B) s) under short r.key a a.1 live in
          omega (
            arith,
            q,
            phi_moved (B - 2) n (ages (h + B + 1) n m) (ages (h + B + 1) (suc n) (alter r.key (some (placed (15 * (h + B + 1) + n) a.1)) m)) (length m) (age (h + B + 1) n a)
                (omega (arith, few, o.count)) (omega (arith, old)) y,
            o.older few,
          )

      riper : (w : ℕ) → w ≤ U * (B - 2)
          → ripes (w + (suc s - fresh B h)) (h + B + 1) (suc s - fresh B h) (run B c'.recs (h + B) (suc s)) + (suc s - fresh B h) ≡ ripes w (h + B) 15 (table B c₀)
      riper w l =
          let q : ripes (w + (suc s - fresh B h)) (h + B + 1) (suc s - fresh B h) (run B c'.recs (h + B) (suc s))
          ≡ ripes (w + suc n) (h + B + 1) (suc n) (alter r.key (some (placed (15 * (h + B + 1) + n) a.1)) m) =
          ap (λ (x : ℕ). ripes (w + x) (h + B + 1) x (run B c'.recs (h + B) (suc s))) one_more
          ∙ ap (λ (y : Map Placed). ripes (w + suc n) (h + B + 1) (suc n) y) grown_at in
          let z : ripes (w + suc n) (h + B + 1) (suc n) (alter r.key (some (placed (15 * (h + B + 1) + n) a.1)) m)
          ≡ ripes (suc (w + n)) (h + B + 1) (suc n) (alter r.key (some (placed (15 * (h + B + 1) + n) a.1)) m) =
          ap (λ (x : ℕ). ripes x (h + B + 1) (suc n) (alter r.key (some (placed (15 * (h + B + 1) + n) a.1)) m)) {x = w + suc n} {y = suc (w + n)} (omega arith) in
          omega (
            arith,
            q,
            z,
            one_more,
            ripes_moved (h + B + 1) n m (run_sorted B c.recs (h + B) s) under short r.key a a.1 live (w + n) (omega (arith, old)),
            o.ripened w l,
          )

      -- whole: the loop goes on with one place and one copy more
      pub opening_copy : Opening B h c₀ c' (suc t) (suc s)
      opening_copy =
          let f : Later B c h = opening_later c t s r low l at o in
          let k : Block (spare B h) c c' = only w.page in
          record {
            ring = block_ring B big c c' h o.ring k f;
            round = inl (block_later B big c c' h o.ring k f);
            unsealed = w.page.full (16 * spare B h + 15) (λ e. page_unsealed B s (spare B h) (sym e)) ∙ o.unsealed;
            blank =
                λ u y z. w.page.full (page_of B u) (λ e. omega (arith, page_inj B s u (omega arith) (omega (arith, o.copies)) (sym e)))
                ∙ o.blank u (omega arith) z;
            dense = λ u y z. filled u y z (ℕ_discrete u s);
            copies = omega (arith, o.copies);
            fewer = omega (arith, o.fewer);
            inside = omega arith;
            from = rw grown (copied B c.recs (h + B) s t s r a at live here (omega (arith, o.copies)) o.from);
            memory = ap bytes grown ∙ copy_bytes (run B c.recs (h + B) s) r.key a s (run_sorted B c.recs (h + B) s) live ∙ o.memory;
            chip = block_map B big c c' h o.ring k f ∙ o.chip;
            still = block_potential B big c c' h o.ring k f ∙ o.still;
            same = block_table B big c c' h o.ring k f ∙ o.same;
            here = block_next B big c c' h o.ring.inside k ∙ o.here;
            older = turn;
            ripened = riper;
            count = ap length grown ∙ count_copy r.key a (placed s a.1) m (run_sorted B c.recs (h + B) s) live ∙ o.count;
          }
        where
          filled : (u : ℕ) → fresh B h ≤ u → u < suc s → Dec (u ≡ s) → c'.full (page_of B u) ≡ true
          filled u y z (yes d) = ap (λ (v : ℕ). c'.full (page_of B v)) d ∙ said_full c' (page_of B s) x w.here
          filled u y z (no d) =
              w.page.full (page_of B u) (λ e. d (page_inj B u s (omega arith) (omega (arith, o.copies, o.fewer)) e)) ∙ o.dense u y (omega arith)

  -- ---- the whole block has been looked at: the seal

  module _ (c c' : Chip) (s : ℕ) (o : Opening B h c₀ c (oldest B (h + B) + 15) s) (w : Page (16 * h + 15) c c') where
    free : Free B c.recs s (fresh B h + 15)
    free u x y = c.honest (page_of B u) (o.blank u x y)

    -- the page reads blank: nothing happened
    pub sealing_none : sealed c' h ≡ false → map_of B c' ≡ map_of B c₀
    sealing_none off = unsealed_map B big c c' h o.ring w off ∙ o.chip

    -- it does not: the spare is the head
    module _ (on : sealed c' h ≡ true) where
      -- THE RING MOVES ON BY ONE
      pub opening_ring : Ring B c' (spare B h)
      opening_ring = seal_ring B big c c' h o.ring w on o.unsealed o.round

      -- the table is that of memory, but for the numbers of places
      pub opening_turned : Turned B h (run B c.recs (h + B) s) (table B c')
      opening_turned =
          seal_turned B big c c' h s o.ring w on o.unsealed o.round o.copies (omega (arith, o.fewer)) (λ u x y. free u x (omega arith))
          (λ k a l. omega (arith, o.from k a l))

      -- THE MAP STAYS
      pub opening_map : map_of B c' ≡ map_of B c₀
      unfolding map_of
      opening_map = turned_bytes B h (run B c.recs (h + B) s) (table B c') opening_turned ∙ o.memory

      -- the next place is after the copies
      pub opening_next : next c' (spare B h) ≡ s - fresh B h
      opening_next =
          next_is c' (spare B h) 15 (s - fresh B h) (omega (arith, o.fewer))
          (λ j x y. same j y ∙ o.blank (15 * (h + B + 1) + j) (omega (arith, o.copies)) (omega arith))
          (λ j x. same j (omega (arith, o.fewer)) ∙ o.dense (15 * (h + B + 1) + j) (omega arith) (omega arith))
        where
          same : (j : ℕ) → j < 15 → c'.full (16 * spare B h + j) ≡ c.full (page_of B (15 * (h + B + 1) + j))
          same j y = w.full (16 * spare B h + j) (λ e. omega arith) ∙ ap c.full (sym (spare_page B big h j y))

      -- memory goes on as it is: the index of the run is that of the new table
      pub opening_ready : length (table B c₀) ≤ 8 * (B - 2) → (index : List ℕ) → index ≡ pages B (run B c.recs (h + B) s)
          → Ready B c' (spare B h) (s - fresh B h) index
      opening_ready few index rows =
          record {
            ring = opening_ring;
            here = sym opening_next;
            rows = rows ∙ sym (turned_pages B h (run B c.recs (h + B) s) (table B c') opening_turned);
            few = omega (arith, ap length rows, pages_length B (run B c.recs (h + B) s), o.count);
          }

      -- ---- what it costs

      -- the potential of the new head is no more than the ages were
      pub opening_paid : length (table B c₀) ≤ room B
          → phi (B - 2) (s - fresh B h) (ages (spare B h + B) (s - fresh B h) (table B c')) ≤ ages (h + B) 15 (table B c₀)
      opening_paid few =
          omega (
            arith,
            ap (phi (B - 2) (s - fresh B h)) (turned_ages B h (run B c.recs (h + B) s) (table B c') (s - fresh B h) opening_turned),
            o.older few,
          )

      -- of the values that this call has not moved, one less for each copy
      pub opening_progress : (w : ℕ) → w ≤ U * (B - 2)
          → ripes (w + (s - fresh B h)) (spare B h + B) (s - fresh B h) (table B c') + (s - fresh B h) ≡ ripes w (h + B) 15 (table B c₀)
      opening_progress w l =
          ap (λ (z : ℕ). z + (s - fresh B h)) (turned_ripes B h (run B c.recs (h + B) s) (table B c') (w + (s - fresh B h)) (s - fresh B h) opening_turned) ∙ o.ripened w l

      -- there are as many rows as before
      pub opening_count : length (table B c') ≡ length (table B c₀)
      opening_count = turned_length B h (run B c.recs (h + B) s) (table B c') opening_turned ∙ o.count
