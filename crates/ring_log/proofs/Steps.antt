-- What each step of the store does to ring, table and map: an append, any change of the spare, the seal.
-- The head is block h, and it has the number h + B; the spare has the number h + B + 1.
-- Assumes nothing.
use mathlib.Core.Path.{◌≡◌, refl, sym, ap, ◌∙◌, subst}
use mathlib.Core.Logic.{◌≢◌, ◌⊎◌, inl, inr}
use mathlib.Core.List.{List, []}
use mathlib.Core.Option.{Option, none, some}
use mathlib.Core.Bool.{true, false}
use Prim.Native.Nat.{ℕ, suc, ◌+◌, ◌-◌, ◌*◌, ◌/◌, ◌%◌, ◌≤◌, ◌<◌}
use native.Mathlib.Nat.{mod-eq_of_lt, add-mod_left, mod-lt}
use native.Mathlib.Decide.{ℕ_discrete}
use native.Mathlib.Omega.{arith}
use Rattle.record.specs.Record.{Rec}
use Rattle.ring_log.specs.Key.{Key}
use Rattle.ring_log.specs.Map.{Map, lookup, alter, Sorted, map_o, map_v}
use Rattle.ring_log.specs.Log.{Entry, replay, Recs, Placed, placed, page_of, entry, log_from, oldest, run, bytes}
use Rattle.ring_log.specs.Ring.{Chip, sealed, spare, First, Later, Ring, table_at, table, map_of}
use Rattle.ring_log.specs.Call.{Page, Block}
use Rattle.ring_log.specs.Opening.{Fresh}
use Rattle.ring_log.proofs.RingLaws.{ring_head}
use Rattle.ring_log.proofs.MapMore.{alter_idle, map_v_alter, lookup_map_v, sorted_map_v}
use Rattle.ring_log.proofs.ReplayLaws.{replay_append, map_v_replay}
use Rattle.ring_log.proofs.Window.{page_block, page_place, page_at_lem, page_unsealed, page_inj, block_ne}
use Rattle.ring_log.proofs.LogLaws.{log_from_cong, log_from_trim, log_from_grow, log_from_up, up, Added, drop_front}

-- ---- the run of places in memory

module _ (B : ℕ) where
  -- no record on the pages of the places from s up to t
  abbrev pub Free : Recs → ℕ → ℕ → Type 0
  Free recs s t = (u : ℕ) → s ≤ u → u < t → recs (page_of B u) ≡ none

  -- it is the same where the pages of its places say the same
  pub run_cong : (recs recs' : Recs) (e s : ℕ) → ((t : ℕ) → oldest B e ≤ t → t < s → recs' (page_of B t) ≡ recs (page_of B t)) → run B recs' e s ≡ run B recs e s
  unfolding run
  run_cong recs recs' e s h =
      ap (λ (l : List (Entry Placed)). replay l []) (log_from_cong B recs recs' (oldest B e) (s - oldest B e) (λ t a b. h t a (omega arith)))

  -- a write at its end alters the map of the run: an append and a copy alike
  pub run_write : (recs recs' : Recs) (e s : ℕ) (r : Rec) → oldest B e ≤ s → s < oldest B e + 15 * B → Added B s r recs recs'
      → run B recs' e (suc s) ≡ alter r.key (map_o (placed s) r.what) (run B recs e s)
  unfolding run
  run_write recs recs' e s r a b w =
      let n : ℕ = s - oldest B e in
      let so : oldest B e + n ≡ s = omega arith in
      let sn : suc s - oldest B e ≡ suc n = omega arith in
      let w' : Added B (oldest B e + n) r recs recs' = subst (λ (x : ℕ). Added B x r recs recs') (sym so) w in
      ap (λ (x : ℕ). replay (log_from B recs' (oldest B e) x) []) sn
      ∙ ap (λ (l : List (Entry Placed)). replay l []) (log_from_grow B recs recs' (oldest B e) n r (omega arith) w')
      ∙ replay_append (log_from B recs (oldest B e) n) _ []
      ∙ ap (λ (x : ℕ). alter r.key (map_o (placed x) r.what) (replay (log_from B recs (oldest B e) n) [])) so

  -- places without records may be left off at its end
  pub run_trim : (recs : Recs) (e s t : ℕ) → oldest B e ≤ s → s ≤ t → Free recs s t → run B recs e t ≡ run B recs e s
  unfolding run
  run_trim recs e s t a b f =
      let n : ℕ = s - oldest B e in
      let m : ℕ = t - s in
      let q : t - oldest B e ≡ n + m = omega arith in
      ap (λ (x : ℕ). replay (log_from B recs (oldest B e) x) []) q
      ∙ ap (λ (l : List (Entry Placed)). replay l []) (log_from_trim B recs (oldest B e) n m (λ u x y. ap (entry u) (f u (omega arith) (omega arith))))

  -- CLEANING: the oldest block may go when no value stands there any more
  pub run_drop : (recs : Recs) (e s : ℕ) → B ≤ e → oldest B (e + 1) ≤ s
      → ((k : Key) (a : Placed) → lookup k (run B recs e s) ≡ some a → oldest B (e + 1) ≤ a.0) → run B recs e s ≡ run B recs (e + 1) s
  unfolding run
  run_drop recs e s b h rows =
      let n : ℕ = s - oldest B (e + 1) in
      let q : s - oldest B e ≡ 15 + n = omega arith in
      let o : oldest B e + 15 ≡ oldest B (e + 1) = omega arith in
      ap (λ (x : ℕ). replay (log_from B recs (oldest B e) x) []) q
      ∙ drop_front B recs (oldest B e) 15 n (λ k a d. omega (arith, rows k a (rw q d)))
      ∙ ap (λ (x : ℕ). replay (log_from B recs x n) []) o

  -- a whole ring further on it is the same, but for the numbers of the places
  pub run_up : (recs : Recs) (e s : ℕ) → B ≤ e → oldest B e ≤ s → run B recs (B + e) (15 * B + s) ≡ map_v (up B) (run B recs e s)
  unfolding run
  run_up recs e s b h =
      let o : oldest B (B + e) ≡ 15 * B + oldest B e = omega arith in
      let n : 15 * B + s - oldest B (B + e) ≡ s - oldest B e = omega arith in
      ap (λ (x : ℕ). replay (log_from B recs (oldest B (B + e)) x) []) n
      ∙ ap (λ (x : ℕ). replay (log_from B recs x (s - oldest B e)) []) o
      ∙ ap (λ (l : List (Entry Placed)). replay l []) (log_from_up B recs (oldest B e) (s - oldest B e))
      ∙ sym (map_v_replay (up B) (log_from B recs (oldest B e) (s - oldest B e)) [])

  -- the pages after the place written are free as before
  pub still_free : (recs recs' : Recs) (s t : ℕ) (r : Rec) → t ≤ s + 15 * B → Added B s r recs recs' → Free recs s t → Free recs' (suc s) t
  still_free recs recs' s t r h w f u a b =
      w.elsewhere (page_of B u) (λ e. omega (arith, page_inj B s u (omega arith) (omega arith) (sym e))) ∙ f u (omega arith) b

-- ---- values

-- a copy of the value that a key has changes no value
pub copy_bytes : (m : Map Placed) (k : Key) (a : Placed) (s : ℕ) → Sorted m → lookup k m ≡ some a → bytes (alter k (some (placed s a.1)) m) ≡ bytes m
copy_bytes m k a s o e =
    map_v_alter (λ (x : Placed). x.1) k (some (placed s a.1)) m
    ∙ alter_idle k (some a.1) (bytes m) (sorted_map_v (λ (x : Placed). x.1) m o)
    (lookup_map_v (λ (x : Placed). x.1) k m ∙ ap (map_o (λ (x : Placed). x.1)) e)

-- a record alters the values as it says
pub write_bytes : (m : Map Placed) (r : Rec) (s : ℕ) → bytes (alter r.key (map_o (placed s) r.what) m) ≡ alter r.key r.what (bytes m)
write_bytes m r s = map_v_alter (λ (x : Placed). x.1) r.key (map_o (placed s) r.what) m ∙ ap (λ (o : Option (List ℕ)). alter r.key o (bytes m)) (go r.what)
  where
    go : (o : Option (List ℕ)) → map_o (λ (x : Placed). x.1) (map_o (placed s) o) ≡ o
    go none = refl
    go (some v) = refl

-- ---- the chip, seen by its head

-- place s of the chip was written, and says r; or it was written, and says nothing
pub record Written (B s : ℕ) (r : Rec) (c c' : Chip) : Type 0 where
  pub page : Page (page_of B s) c c'
  pub here : c'.recs (page_of B s) ≡ some r

-- or it says nothing
pub record Spoilt (B s : ℕ) (c c' : Chip) : Type 0 where
  pub page : Page (page_of B s) c c'
  pub here : c'.recs (page_of B s) ≡ none

module _ (B : ℕ) (big : 4 ≤ B) where
  -- the block number h + B is block h
  pub head_number : (h : ℕ) → h < B → (h + B) % B ≡ h
  head_number h l = ap (λ (x : ℕ). x % B) (let z : h + B ≡ B + h = omega arith in z) ∙ add-mod_left B h ∙ mod-eq_of_lt l

  -- the next number is the spare
  pub spare_number : (h : ℕ) → (h + B + 1) % B ≡ spare B h
  spare_number h = ap (λ (x : ℕ). x % B) (let z : h + B + 1 ≡ B + (h + 1) = omega arith in z) ∙ add-mod_left B (h + 1)

  -- the spare is another block
  pub spare_other : (h : ℕ) → h < B → h ≢ spare B h
  spare_other h l e = block_ne B h (h + 1) (omega arith) (omega arith) (mod-eq_of_lt l ∙ e)

  -- and one of the chip's
  pub spare_lt : (h : ℕ) → spare B h < B
  spare_lt h = mod-lt (h + 1) (omega arith)

  -- place n of the head lies on its page n
  pub head_page : (h n : ℕ) → h < B → n < 15 → page_of B (15 * (h + B) + n) ≡ 16 * h + n
  head_page h n l k = page_at_lem B (h + B) n k ∙ ap (λ (x : ℕ). 16 * x + n) (head_number h l)

  -- place n of the spare lies on its page n
  pub spare_page : (h n : ℕ) → n < 15 → page_of B (15 * (h + B + 1) + n) ≡ 16 * spare B h + n
  spare_page h n k = page_at_lem B (h + B + 1) n k ∙ ap (λ (x : ℕ). 16 * x + n) (spare_number h)

  module _ (c : Chip) (h : ℕ) (r : Ring B c h) where
    -- the table is the run of all its places
    pub table_at_lem : table B c ≡ run B c.recs (h + B) (15 * (h + B) + 15)
    unfolding table table_at
    table_at_lem = ap (λ (x : ℕ). run B c.recs (x + B) (15 * (x + B) + 15)) (ring_head B big c h r)

    -- the table is the run up to any place of the head's block after which no record stands
    pub table_run : (s : ℕ) → 15 * (h + B) ≤ s → s ≤ 15 * (h + B) + 15 → Free B c.recs s (15 * (h + B) + 15) → table B c ≡ run B c.recs (h + B) s
    table_run s a b f = table_at_lem ∙ run_trim B c.recs (h + B) s (15 * (h + B) + 15) (omega arith) b f

  -- what a write at a place adds to what the pages say
  pub wrote : (s : ℕ) (r : Rec) (c c' : Chip) → Written B s r c c' → Added B s r c.recs c'.recs
  wrote s r c c' w = record { here = w.here; elsewhere = λ p n. w.page.recs p n }

  -- ---- a page of the head's block, not its seal

  module _ (c c' : Chip) (h p : ℕ) (at : p / 16 ≡ h) (low : p % 16 < 15) (w : Page p c c') where
    page_first : First B c h → First B c' h
    page_first f =
        record {
          below = λ b l. w.full (16 * b + 15) (λ e. omega arith) ∙ f.below b l;
          above = λ q a b. w.full q (λ e. omega arith) ∙ f.above q a b;
        }

    page_later : Later B c h → Later B c' h
    page_later f b i n m = w.full (16 * b + 15) (λ e. omega arith) ∙ f b i n m

    -- the ring is the same
    pub page_ring : Ring B c h → Ring B c' h
    page_ring r = record { inside = r.inside; unsealed = w.full (16 * h + 15) (λ e. omega arith) ∙ r.unsealed; shape = go r.shape }
      where
        go : First B c h ⊎ Later B c h → First B c' h ⊎ Later B c' h
        go (inl f) = inl (page_first f)
        go (inr f) = inr (page_later f)

  -- ---- AN APPEND at the place s of the head's block

  module _ (c c' : Chip) (h s : ℕ) (r : Ring B c h) (q : s / 15 ≡ h + B) where
    in_head : page_of B s / 16 ≡ h
    in_head = page_block B s ∙ ap (λ (x : ℕ). x % B) q ∙ head_number h r.inside

    in_low : page_of B s % 16 < 15
    in_low = omega (arith, page_place B s)

    -- the ring is the same
    pub append_ring : Page (page_of B s) c c' → Ring B c' h
    append_ring w = page_ring c c' h (page_of B s) in_head in_low w r

    -- the table has the new row, or lost the one of the key
    pub append_table : (x : Rec) → Free B c.recs s (15 * (h + B) + 15) → Written B s x c c' → table B c' ≡ alter x.key (map_o (placed s) x.what) (table B c)
    append_table x f w =
        table_run c' h (append_ring w.page) (suc s) (omega arith) (omega arith)
        (still_free B c.recs c'.recs s (15 * (h + B) + 15) x (omega arith) (wrote s x c c' w) f)
        ∙ run_write B c.recs c'.recs (h + B) s x (omega arith) (omega arith) (wrote s x c c' w)
        ∙ ap (alter x.key (map_o (placed s) x.what)) (sym (table_run c h r s (omega arith) (omega arith) f))

    -- the map is altered
    pub append_map : (x : Rec) → Free B c.recs s (15 * (h + B) + 15) → Written B s x c c' → map_of B c' ≡ alter x.key x.what (map_of B c)
    unfolding map_of
    append_map x f w = ap bytes (append_table x f w) ∙ write_bytes (table B c) x s

    -- cut, and the page says nothing: blank or not
    pub spoilt_table : c.recs (page_of B s) ≡ none → Spoilt B s c c' → table B c' ≡ table B c
    spoilt_table f w =
        table_at_lem c' h (append_ring w.page)
        ∙ run_cong B c.recs c'.recs (h + B) (15 * (h + B) + 15) (λ t a b. go t (ℕ_discrete (page_of B t) (page_of B s)))
        ∙ sym (table_at_lem c h r)
      where
        go : (t : ℕ) → Dec (page_of B t ≡ page_of B s) → c'.recs (page_of B t) ≡ c.recs (page_of B t)
        go t (yes d) = rw d (w.here ∙ sym f)
        go t (no d) = w.page.recs (page_of B t) d

    -- so the map is the same
    pub spoilt_map : c.recs (page_of B s) ≡ none → Spoilt B s c c' → map_of B c' ≡ map_of B c
    unfolding map_of
    spoilt_map f w = ap bytes (spoilt_table f w)

  -- ---- ANY CHANGE OF THE SPARE: an erase whole or cut, whatever it leaves there; a copy whole or cut

  module _ (c c' : Chip) (h : ℕ) (r : Ring B c h) (w : Block (spare B h) c c') where
    -- the seals of the others stay
    pub block_later : Later B c h → Later B c' h
    block_later f b i n m = w.full (16 * b + 15) (λ e. m (let z : (16 * b + 15) / 16 ≡ b = omega arith in sym z ∙ e)) ∙ f b i n m

    -- the ring is the same
    pub block_ring : Later B c h → Ring B c' h
    block_ring f =
        record {
          inside = r.inside;
          unsealed = w.full (16 * h + 15) (λ e. spare_other h r.inside (let z : (16 * h + 15) / 16 ≡ h = omega arith in sym z ∙ e)) ∙ r.unsealed;
          shape = inr (block_later f);
        }

    -- so are the runs up to the end of the head
    pub block_run : (s : ℕ) → s ≤ 15 * (h + B) + 15 → run B c'.recs (h + B) s ≡ run B c.recs (h + B) s
    block_run s l =
        run_cong B c.recs c'.recs (h + B) s
        (λ t a b. w.recs (page_of B t)
        (λ e. block_ne B (t / 15) (h + B + 1) (omega arith) (omega arith) (sym (page_block B t) ∙ e ∙ sym (spare_number h))))

    -- so is the table
    pub block_table : Later B c h → table B c' ≡ table B c
    block_table f = table_at_lem c' h (block_ring f) ∙ block_run (15 * (h + B) + 15) (omega arith) ∙ sym (table_at_lem c h r)

    -- NO CHANGE OF THE SPARE CHANGES THE MAP
    pub block_map : Later B c h → map_of B c' ≡ map_of B c
    unfolding map_of
    block_map f = ap bytes (block_table f)

  -- a page of the spare is a change of the spare
  pub page_block_only : (c c' : Chip) (b p : ℕ) → p / 16 ≡ b → Page p c c' → Block b c c'
  page_block_only c c' b p e w =
      record {
        recs = λ q n. w.recs q (λ d. n (ap (λ (x : ℕ). x / 16) d ∙ e));
        full = λ q n. w.full q (λ d. n (ap (λ (x : ℕ). x / 16) d ∙ e));
      }

  -- the places of the next number lie in the spare
  pub in_spare : (h s : ℕ) → s / 15 ≡ h + B + 1 → page_of B s / 16 ≡ spare B h
  in_spare h s q = page_block B s ∙ ap (λ (x : ℕ). x % B) q ∙ spare_number h

  -- ---- THE SEAL of the head

  module _ (c c' : Chip) (h : ℕ) (r : Ring B c h) (w : Page (16 * h + 15) c c') where
    -- no place lies there: runs are the same
    pub seal_run : (e s : ℕ) → run B c'.recs e s ≡ run B c.recs e s
    seal_run e s = run_cong B c.recs c'.recs e s (λ t a b. w.recs (page_of B t) (page_unsealed B t h))

    -- if the page reads blank, nothing happened
    module _ (off : sealed c' h ≡ false) where
      -- the same pages are blank
      pub unsealed_full : (p : ℕ) → c'.full p ≡ c.full p
      unsealed_full p = go (ℕ_discrete p (16 * h + 15))
        where
          go : Dec (p ≡ 16 * h + 15) → c'.full p ≡ c.full p
          go (yes d) = ap c'.full d ∙ off ∙ sym r.unsealed ∙ ap c.full (sym d)
          go (no d) = w.full p d

      -- the ring is the same
      pub unsealed_ring : Ring B c' h
      unsealed_ring = record { inside = r.inside; unsealed = off; shape = go r.shape }
        where
          go : First B c h ⊎ Later B c h → First B c' h ⊎ Later B c' h
          go (inl f) =
              inl (record { below = λ b l. unsealed_full (16 * b + 15) ∙ f.below b l; above = λ p a b. unsealed_full p ∙ f.above p a b })
          go (inr f) = inr (λ b i n m. unsealed_full (16 * b + 15) ∙ f b i n m)

      -- so is the table
      pub unsealed_table : table B c' ≡ table B c
      unsealed_table = table_at_lem c' h unsealed_ring ∙ seal_run (h + B) (15 * (h + B) + 15) ∙ sym (table_at_lem c h r)

      -- so is the map
      pub unsealed_map : map_of B c' ≡ map_of B c
      unfolding map_of
      unsealed_map = ap bytes unsealed_table

    -- if it does not, the spare is the head
    module _ (on : sealed c' h ≡ true) (blank : sealed c (spare B h) ≡ false) where
      -- THE RING MOVES ON BY ONE
      pub seal_ring : Later B c h ⊎ Fresh B c h → Ring B c' (spare B h)
      seal_ring k =
          record {
            inside = spare_lt h;
            unsealed = w.full (16 * spare B h + 15) (λ e. spare_other h r.inside (omega arith)) ∙ blank;
            shape = go k;
          }
        where
          last : (b : ℕ) → (b ≢ h → sealed c b ≡ true) → sealed c' b ≡ true
          last b f = cases (ℕ_discrete b h)
            where
              cases : Dec (b ≡ h) → sealed c' b ≡ true
              cases (yes d) = ap (sealed c') d ∙ on
              cases (no d) = w.full (16 * b + 15) (λ e. d (omega arith)) ∙ f d

          go : Later B c h ⊎ Fresh B c h → First B c' (spare B h) ⊎ Later B c' (spare B h)
          go (inl f) = inr (λ b i n m. last b (λ d. f b i d n))
          go (inr (l, f)) =
              let q : spare B h ≡ h + 1 = mod-eq_of_lt (let z : h + 1 < B = omega arith in z) in
              inl (record {
                below = λ b i. last b (λ d. f.below b (omega arith));
                above = λ p a b. w.full p (λ e. omega arith) ∙ f.above p (omega arith) b;
              })
