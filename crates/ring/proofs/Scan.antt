-- The loops of start that read seals: the head, the next place, the test for a ring. Assumes nothing.
use mathlib.Core.Path.{◌≡◌, refl, sym, ap, ◌∙◌, subst}
use mathlib.Core.Logic.{◌⊎◌, inl, inr}
use mathlib.Core.Bool.{Bool, true, false, cond, not, ◌&&◌, ◌||◌, true≢false}
use Prim.Native.Nat.{ℕ, zero, suc, ◌+◌, ◌-◌, ◌*◌, ◌/◌, ◌%◌, ◌≤◌, ◌<◌}
use native.Mathlib.Nat.{mod_self, mod-eq_of_lt, eq-or-lt_of_le, le_of_suc-le-suc}
use native.Mathlib.Omega.{arith}
use lib.Dec.{eqb}
use borrow.Author.Tests.{eqb-true, eqb-false, le-leb, eq-eqb, ne_eqb, not-true, not-false}
use Rattle.std.specs.Int.{from_bool}
use Rattle.std.specs.List.{list_all, range_with_len}
use Rattle.std.proofs.lemmas.List.FromFn.{length-range_with_len, get_or-range_with_len}
use Rattle.page.specs.Page.{byte, all}
use Rattle.page.proofs.All.{and_true, and_left, and_right, all_at, all_of, all_fails, all_list}
use Rattle.ring_log.specs.Ring.{Chip, sealed, head_from, head, first_test, later_test, ring_test, next_to}
use Rattle.ring_log.specs.Log.{page_of}
use Rattle.ring.specs.Seals.{one, counted, head_by, sealed_below, blank_from, Begins}

-- ---- tests of all pages

-- tests that agree
all_same : (p q : ℕ → Bool) (n : ℕ) → ((i : ℕ) → i < n → p i ≡ q i) → all p n ≡ all q n
unfolding all
all_same p q zero h = refl
all_same p q (suc n) h = λ i. all_same p q n (λ j l. h j (omega arith)) i && h n (omega arith) i

not_not : (b : Bool) → b ≡ not (not b)
not_not true = refl
not_not false = refl

-- the numbers from a on pass a test, or none fails it
pub all_range : (p : ℕ → Bool) (a n : ℕ) → list_all p (range_with_len a n) ≡ all (λ i. not (not (p (a + i)))) n
all_range p a n =
    all_list p (range_with_len a n)
    ∙ ap (all (λ i. p (byte (range_with_len a n) i))) (length-range_with_len a n)
    ∙ all_same _ _ n (λ i l. ap p (get_or-range_with_len a n i 0 l) ∙ not_not (p (a + i)))

-- ---- how many hold

-- a test as a number
pub ones : (t : Bool) → from_bool t ≡ one t
ones true = refl
ones false = refl

pub one_not : (t : Bool) → one t + one (not t) ≡ 1
one_not true = refl
one_not false = refl

module _ (p : ℕ → Bool) where
  pub counted_le : (n : ℕ) → counted p n ≤ n
  unfolding counted
  counted_le zero = omega arith
  counted_le (suc n) = omega (arith, counted_le n, one_not (p n))

  one_true : (t : Bool) → one t ≡ 1 → t ≡ true
  one_true true e = refl
  one_true false e = absurd (omega arith)

  -- all hold, if so many do; and the other way round
  pub all_counted : (n : ℕ) → counted p n ≡ n → all p n ≡ true
  unfolding counted all
  all_counted zero e = refl
  all_counted (suc n) e =
      and_true (all p n) (p n) (all_counted n (omega (arith, counted_le n, one_not (p n)))) (one_true (p n) (omega (arith, e, counted_le n, one_not (p n))))

  pub counted_all : (n : ℕ) → all p n ≡ true → counted p n ≡ n
  unfolding counted all
  counted_all zero e = refl
  counted_all (suc n) e = omega (arith, counted_all n (and_left (all p n) (p n) e), ap one (and_right (all p n) (p n) e))

  -- the first, and one more turn of the loop
  pub counted_first : (r : ℕ) (t : Bool) → t ≡ p 0 → r ≡ 0 + one t → r ≡ counted p 1
  unfolding counted
  counted_first r t b d = d ∙ ap (λ (u : Bool). 0 + one u) b

  pub counted_next : (x n r : ℕ) (t : Bool) → n ≡ counted p x → t ≡ p x → r ≡ n + one t → r ≡ counted p (x + 1)
  unfolding counted
  counted_next x n r t a b d = d ∙ ap (λ (k : ℕ). k + one t) a ∙ ap (λ (u : Bool). counted p x + one u) b ∙ ap (counted p) {x = suc x} {y = x + 1} (omega arith)

  -- k besides
  module _ (k : ℕ) where
    abbrev with : ℕ → Bool
    with x = eqb x k || p x

    counted_before : (n : ℕ) → n ≤ k → counted with n ≡ counted p n
    unfolding counted
    counted_before zero l = refl
    counted_before (suc n) l =
        ap (λ (m : ℕ). m + one (eqb n k || p n)) (counted_before n (omega arith)) ∙ ap (λ (t : Bool). counted p n + one (t || p n)) (ne_eqb n k (λ e. omega arith))

    pub counted_with : (n : ℕ) → k < n → counted with n ≡ counted p n + one (not (p k))
    unfolding counted
    counted_with zero l = absurd (omega arith)
    counted_with (suc n) l = go (eq-or-lt_of_le (le_of_suc-le-suc l)) (counted_with n)
      where
        go : (k ≡ n) ⊎ (k < n) → (k < n → counted with n ≡ counted p n + one (not (p k))) → counted with n + one (eqb n k || p n) ≡ counted p n + one (p n) + one (not (p k))
        go (inl e) ih =
            omega (arith, counted_before n (omega arith), ap (λ (t : Bool). one (t || p n)) (eq-eqb n k (sym e)), one_not (p n), ap (λ (x : ℕ). one (not (p x))) e)
        go (inr m) ih = omega (arith, ih m, ap (λ (t : Bool). one (t || p n)) (ne_eqb n k (λ e. omega arith)))

-- ---- the head

module _ (c : Chip) where
  head_at : (y n : ℕ) (t : Bool) → (sealed c y && not (sealed c (suc y))) ≡ t → head_from c y (suc n) ≡ cond t (suc y) (head_from c (suc y) n)
  unfolding head_from
  head_at y n t e = ap (λ (b : Bool). cond b (suc y) (head_from c (suc y) n)) e

  pub head_begins : (B : ℕ) → head B c ≡ head_from c (1 - 1) (B - 1)
  unfolding head
  head_begins B = refl

  -- a turn of the loop at block x: it is the head, or the search goes on
  pub head_turn : (B x : ℕ) (s t b : Bool) → 1 ≤ x → x < B → s ≡ sealed c (x - 1) → t ≡ sealed c x → (s && not t) ≡ b
      → head_from c (x - 1) (B - x) ≡ cond b x (head_from c (x + 1 - 1) (B - (x + 1)))
  head_turn B x s t b l m p q e = go (x - 1) (B - (x + 1)) (omega arith) (omega arith) p
    where
      go : (y n : ℕ) → x ≡ suc y → B - x ≡ suc n → s ≡ sealed c y → head_from c y (B - x) ≡ cond b x (head_from c (x + 1 - 1) n)
      go y n d f p =
          ap (head_from c y) f
          ∙ head_at y n b (ap (λ (z : Bool). z && not (sealed c (suc y))) (sym p) ∙ ap (λ (z : ℕ). s && not (sealed c z)) (sym d) ∙ ap (λ (z : Bool). s && not z) (sym q) ∙ e)
          ∙ ap (λ (z : ℕ). cond b z (head_from c z n)) (sym d)
          ∙ ap (λ (z : ℕ). cond b x (head_from c z n)) (omega arith)

  -- the loop is through
  head_ends : (B x : ℕ) → x ≡ B → head_from c (x - 1) (B - x) ≡ 0
  unfolding head_from
  head_ends B x e = go (B - x) (omega arith)
    where
      go : (n : ℕ) → n ≡ 0 → head_from c (x - 1) n ≡ 0
      go n d = ap (head_from c (x - 1)) d

  -- the head that was found, and else the one that is still to be found
  abbrev pub pick : ℕ → ℕ → ℕ
  pick zero y = y
  pick (suc h) y = suc h

  -- after a look at block x
  pick_by : (B x h : ℕ) (s t : Bool) → 1 ≤ x → x < B → s ≡ sealed c (x - 1) → t ≡ sealed c x
      → pick h (head_from c (x - 1) (B - x)) ≡ pick (head_by h s t x) (head_from c (x + 1 - 1) (B - (x + 1)))
  pick_by B x (suc h) s t l m p q =
      ap (λ (b : Bool). pick (cond (b && s && not t) x (suc h)) (head_from c (x + 1 - 1) (B - (x + 1)))) (sym (ne_eqb (suc h) 0 (λ e. omega arith)))
  pick_by B x zero s t l m p q = head_turn B x s t (s && not t) l m p q refl ∙ go (s && not t) x l
    where
      go : (b : Bool) (y : ℕ) → 1 ≤ y → cond b y (head_from c (x + 1 - 1) (B - (x + 1))) ≡ pick (cond b y 0) (head_from c (x + 1 - 1) (B - (x + 1)))
      go true zero l = absurd (omega arith)
      go true (suc y) l = refl
      go false y l = refl

  pub pick_turn : (B x h : ℕ) (s t : Bool) → 1 ≤ x → x < B → s ≡ sealed c (x - 1) → t ≡ sealed c x → (r : ℕ) → r ≡ head_by h s t x
      → pick h (head_from c (x - 1) (B - x)) ≡ pick r (head_from c (x + 1 - 1) (B - (x + 1)))
  pick_turn B x h s t l m p q r e = pick_by B x h s t l m p q ∙ ap (λ (y : ℕ). pick y (head_from c (x + 1 - 1) (B - (x + 1)))) (sym e)

  pub pick_end : (B x h : ℕ) → x ≡ B → pick h (head_from c (x - 1) (B - x)) ≡ h
  pick_end B x zero e = head_ends B x e
  pick_end B x (suc h) e = refl

  pub pick_inside : (h x : ℕ) (s t : Bool) → h < x → head_by h s t x < x + 1
  pick_inside h x s t l = go (eqb h 0 && s && not t)
    where
      go : (b : Bool) → cond b x h < x + 1
      go true = omega arith
      go false = omega arith

  -- the block passed is the one before the next
  pub sealed_on : (x : ℕ) (t : Bool) → t ≡ sealed c x → t ≡ sealed c (x + 1 - 1)
  sealed_on x t e = e ∙ ap (sealed c) (omega arith)

  -- a head that was found isn't sealed
  head_open : (x n m : ℕ) → head_from c x n ≡ suc m → sealed c (suc m) ≡ false
  unfolding head_from
  head_open x zero m e = absurd (omega arith)
  head_open x (suc n) m e = go (sealed c x && not (sealed c (suc x))) refl e (head_open (suc x) n m)
    where
      go : (t : Bool) → (sealed c x && not (sealed c (suc x))) ≡ t → cond t (suc x) (head_from c (suc x) n) ≡ suc m
          → (head_from c (suc x) n ≡ suc m → sealed c (suc m) ≡ false) → sealed c (suc m) ≡ false
      go true q d ih = ap (sealed c) (sym d) ∙ not-true _ (and_right (sealed c x) (not (sealed c (suc x))) q)
      go false q d ih = ih d

  -- no earlier block could be the head: if block x is sealed, so are all from it up to the head
  head_below : (x n h : ℕ) → head_from c x n ≡ h → 0 < h → sealed c x ≡ true → (y : ℕ) → x ≤ y → y < h → sealed c y ≡ true
  unfolding head_from
  head_below x zero h e far s y l m = absurd (omega arith)
  head_below x (suc n) h e far s y l m = go (sealed c x && not (sealed c (suc x))) refl e (eq-or-lt_of_le l) (λ d t k. head_below (suc x) n h d far t y k m)
    where
      go : (t : Bool) → (sealed c x && not (sealed c (suc x))) ≡ t → cond t (suc x) (head_from c (suc x) n) ≡ h → (x ≡ y) ⊎ (x < y)
          → (head_from c (suc x) n ≡ h → sealed c (suc x) ≡ true → suc x ≤ y → sealed c y ≡ true) → sealed c y ≡ true
      go t q d (inl z) ih = ap (sealed c) (sym z) ∙ s
      go true q d (inr k) ih = absurd (omega arith)
      go false q d (inr k) ih = ih d (not-false _ (ap (λ (b : Bool). b && not (sealed c (suc x))) (sym s) ∙ q)) k

  module _ (B h : ℕ) (e : h ≡ head B c) where
    from_0 : head_from c 0 (B - 1) ≡ h
    unfolding head
    from_0 = sym e

    -- the head is sealed only if it is block 0
    pub head_unsealed : 0 < h → sealed c h ≡ false
    head_unsealed l = go h refl
      where
        go : (k : ℕ) → h ≡ k → sealed c k ≡ false
        go zero d = absurd (omega arith)
        go (suc k) d = head_open 0 (B - 1) k (from_0 ∙ d)

    -- the blocks below it are sealed if block 0 is
    pub below_first : sealed c 0 ≡ true → sealed_below c h ≡ true
    below_first s = all_of (λ b. sealed c b) h (λ i l. head_below 0 (B - 1) h from_0 (omega arith) s i (omega arith) l)

    pub below_none : h ≡ 0 → sealed_below c h ≡ true
    below_none z = all_of (λ b. sealed c b) h (λ i l. absurd (omega arith))

    pub below_gap : 0 < h → sealed c 0 ≡ false → sealed_below c h ≡ false
    below_gap l s = all_fails (λ b. sealed c b) h 0 l s

  -- ---- the next place of block h
  module _ (h : ℕ) where
    -- the page before place n isn't blank
    pub next_full : (n : ℕ) → 0 < n → c.full (16 * h + (n - 1)) ≡ true → next_to c h n ≡ n
    unfolding next_to
    next_full zero l e = absurd (omega arith)
    next_full (suc m) l e = ap (λ (b : Bool). cond b (suc m) (next_to c h m)) (ap c.full (omega arith) ∙ e)

    -- it is
    pub next_blank : (n : ℕ) → 0 < n → c.full (16 * h + (n - 1)) ≡ false → next_to c h n ≡ next_to c h (n - 1)
    unfolding next_to
    next_blank zero l e = absurd (omega arith)
    next_blank (suc m) l e = ap (λ (b : Bool). cond b (suc m) (next_to c h m)) (ap c.full (omega arith) ∙ e) ∙ ap (next_to c h) {x = m} {y = suc m - 1} (omega arith)

    -- there is none
    pub next_none : next_to c h 0 ≡ 0
    unfolding next_to
    next_none = refl

  -- ---- all blocks but two are sealed, if so many are
  abbrev but : ℕ → ℕ → ℕ → Bool
  but h s x = eqb x h || (eqb x s || sealed c x)

  module _ (B h s : ℕ) (l : h < B) (m : s < B) (ne : h ≡ s → ⊥) (e : s ≡ (h + 1) % B) (free : sealed c h ≡ false) where
    but_counted : counted (but h s) B ≡ counted (λ x. sealed c x) B + one (not (sealed c s)) + 1
    but_counted =
        counted_with (λ x. eqb x s || sealed c x) h B l
        ∙ ap (λ (t : Bool). counted (λ x. eqb x s || sealed c x) B + one (not t)) (ap (λ (t : Bool). t || sealed c h) (ne_eqb h s ne) ∙ free)
        ∙ ap (λ (n : ℕ). n + 1) (counted_with (λ x. sealed c x) s B m)

    later_is : all (but h s) B ≡ later_test B c h
    unfolding later_test
    later_is = ap (λ (k : ℕ). all (but h k) B) e

    module _ (n r : ℕ) (a : n ≡ counted (λ x. sealed c x) B) (b : r ≡ B + one (sealed c s)) where
      pub later_so_many : n + 2 ≡ r → later_test B c h ≡ true
      later_so_many q = sym later_is ∙ all_counted (but h s) B (omega (arith, but_counted, one_not (sealed c s)))

      pub later_not_so_many : (n + 2 ≡ r → ⊥) → later_test B c h ≡ false
      later_not_so_many q = go (later_test B c h) refl
        where
          go : (t : Bool) → later_test B c h ≡ t → t ≡ false
          go true d = absurd (q (omega (arith, but_counted, counted_all (but h s) B (later_is ∙ d), one_not (sealed c s))))
          go false d = refl

  -- ---- the ring
  module _ (B h : ℕ) (l : h < B) where
    ring_by : (s f a k : Bool) → sealed c h ≡ s → later_test B c h ≡ f → sealed_below c h ≡ a → blank_from c (16 * h + 16) (16 * B - (16 * h + 16)) ≡ k
        → ring_test B c h ≡ (not s && ((a && k) || f))
    unfolding ring_test first_test
    ring_by s f a k p q u v = rw (le-leb (suc h) B l, p, q, u, v)

    pub ring_sealed : sealed c h ≡ true → ring_test B c h ≡ false
    ring_sealed p = ring_by true _ _ _ p refl refl refl

    pub ring_later : sealed c h ≡ false → later_test B c h ≡ true → ring_test B c h ≡ true
    ring_later p q = ring_by false true _ _ p q refl refl ∙ go (sealed_below c h && blank_from c (16 * h + 16) (16 * B - (16 * h + 16)))
      where
        go : (z : Bool) → (z || true) ≡ true
        go true = refl
        go false = refl

    pub ring_gap : sealed c h ≡ false → later_test B c h ≡ false → sealed_below c h ≡ false → ring_test B c h ≡ false
    ring_gap p q u = ring_by false false false _ p q u refl

    pub ring_first : (k : Bool) → sealed c h ≡ false → later_test B c h ≡ false → sealed_below c h ≡ true → blank_from c (16 * h + 16) (16 * B - (16 * h + 16)) ≡ k
        → ring_test B c h ≡ k
    ring_first k p q u v = ring_by false false true k p q u v ∙ go k
      where
        go : (z : Bool) → (z || false) ≡ z
        go true = refl
        go false = refl

    -- ---- where the log begins: at the oldest block, in the first round at block 0
    begins_later : 4 ≤ B → ring_test B c h ≡ true → Begins B c h 2
    begins_later big e = record { ring = e; range = (omega arith, omega arith); silent = λ s l m. absurd (omega arith) }

    begins_first : h + 2 < B → ring_test B c h ≡ true → blank_from c (16 * h + 16) (16 * B - (16 * h + 16)) ≡ true → Begins B c h (B - h)
    unfolding page_of
    begins_first far e z =
        record {
          ring = e;
          range = (omega arith, omega arith);
          silent = λ s l m.
              let d : s / 15 % B ≡ s / 15 = mod-eq_of_lt (let y : s / 15 < B = omega arith in y) in
              let i : ℕ = 16 * (s / 15) + s % 15 - (16 * h + 16) in
              let at : 16 * h + 16 + i ≡ 16 * (s / 15 % B) + s % 15 = omega (arith, d) in
              c.honest (16 * (s / 15 % B) + s % 15)
              (not-true _ (ap (λ (p : ℕ). not (c.full p)) (sym at) ∙ all_at (λ i. not (c.full (16 * h + 16 + i))) (16 * B - (16 * h + 16)) i (omega arith) z));
        }

  -- ---- the same by what the seals say: h is the head, n blocks are sealed, and f says whether block 0 is
  module _ (B : ℕ) (big : 4 ≤ B) (h n : ℕ) (f : Bool) (l : h < B) (e : h ≡ head B c) (a : f ≡ sealed c 0) (so : n ≡ counted (λ x. sealed c x) B) where
    -- the head is sealed
    pub begin_sealed : (eqb h 0 && f) ≡ true → ring_test B c h ≡ false
    begin_sealed t =
        let z : h ≡ 0 = eqb-true h 0 (and_left (eqb h 0) f t) in
        ring_sealed B h l (ap (sealed c) z ∙ sym a ∙ and_right (eqb h 0) f t)

    module _ (t : (eqb h 0 && f) ≡ false) where
      unsealed : sealed c h ≡ false
      unsealed = go h refl
        where
          go : (k : ℕ) → h ≡ k → sealed c k ≡ false
          go zero d = sym a ∙ ap (λ (b : Bool). b && f) (sym (eq-eqb h 0 d)) ∙ t
          go (suc k) d = subst (λ (x : ℕ). sealed c x ≡ false) d (head_unsealed B h e (omega arith))

      module _ (s r : ℕ) (b : Bool) (at : s ≡ (h + 1) % B) (m : s < B) (g : b ≡ sealed c s) (z : r ≡ B + one b) where
        q : r ≡ B + one (sealed c s)
        q = z ∙ ap (λ (x : Bool). B + one x) g

        other : h ≡ s → ⊥
        other i = go (eq-or-lt_of_le l)
          where
            go : (suc h ≡ B) ⊎ (suc h < B) → ⊥
            go (inl z) = let y : s ≡ 0 = at ∙ ap (λ (x : ℕ). x % B) (let w : h + 1 ≡ B = omega arith in w) ∙ mod_self B in omega arith
            go (inr z) = let y : s ≡ h + 1 = at ∙ mod-eq_of_lt (let w : h + 1 < B = omega arith in w) in omega arith

        -- later
        pub begin_later : n + 2 ≡ r → Begins B c h 2
        begin_later d = begins_later B h l big (ring_later B h l unsealed (later_so_many B h s l m other at unsealed n r so q d))

        module _ (d : n + 2 ≡ r → ⊥) where
          no_later : later_test B c h ≡ false
          no_later = later_not_so_many B h s l m other at unsealed n r so q d

          some : (k : ℕ) → (k ≡ 0 → ⊥) → 0 < k
          some zero z = absurd (z refl)
          some (suc k) z = omega arith

          -- a gap below the head
          pub begin_gap : (not (eqb h 0) && not f) ≡ true → ring_test B c h ≡ false
          begin_gap u =
              let k : 0 < h = some h (eqb-false h 0 (not-true _ (and_left (not (eqb h 0)) (not f) u))) in
              ring_gap B h l unsealed no_later (below_gap B h e k (sym a ∙ not-true _ (and_right (not (eqb h 0)) (not f) u)))

          module _ (u : (not (eqb h 0) && not f) ≡ false) where
            below : sealed_below c h ≡ true
            below = go (eqb h 0) refl f refl
              where
                go : (y : Bool) → eqb h 0 ≡ y → (g : Bool) → f ≡ g → sealed_below c h ≡ true
                go true w g v = below_none B h e (eqb-true h 0 w)
                go false w true v = below_first B h e (sym a ∙ v)
                go false w false v = absurd (true≢false (sym (ap (λ (b : Bool). not b && not f) w ∙ ap (λ (b : Bool). not b) v) ∙ u))

            by_blank : (k : Bool) → blank_from c (16 * h + 16) (16 * B - (16 * h + 16)) ≡ k → ring_test B c h ≡ k
            by_blank k v = ring_first B h l k unsealed no_later below v

            pub begin_unblank : blank_from c (16 * h + 16) (16 * B - (16 * h + 16)) ≡ false → ring_test B c h ≡ false
            begin_unblank v = by_blank false v

            pub begin_first : h + 2 < B → blank_from c (16 * h + 16) (16 * B - (16 * h + 16)) ≡ true → Begins B c h (B - h)
            begin_first far v = begins_first B h l far (by_blank true v) v

            pub begin_short : blank_from c (16 * h + 16) (16 * B - (16 * h + 16)) ≡ true → Begins B c h 2
            begin_short v = begins_later B h l big (by_blank true v)
