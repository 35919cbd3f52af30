-- The ring gives the head; the test that start runs says what the ring says; the next place.
-- Assumes nothing.
use mathlib.Core.Path.{◌≡◌, refl, sym, ap, ◌∙◌, subst}
use mathlib.Core.Logic.{◌≢◌, ◌⊎◌, inl, inr}
use mathlib.Core.Bool.{Bool, true, false, cond, not, ◌&&◌, ◌||◌, true≢false}
use Prim.Native.Nat.{ℕ, zero, suc, ◌+◌, ◌-◌, ◌*◌, ◌%◌, ◌≤◌, ◌<◌}
use native.Mathlib.Nat.{not-suc-le-zero, mod-lt, mod-eq_of_lt, add-mod_left}
use native.Mathlib.Decide.{dec_lt, ℕ_discrete}
use native.Mathlib.Omega.{arith}
use lib.Dec.{eqb, leb}
use borrow.Author.Tests.{eqb-true, eq-eqb, le-leb, leb-true, not-true}
use Rattle.ring_log.specs.Ring.{Chip, sealed, head_from, head, spare, First, Later, Ring, first_test, later_test, ring_test, next_to}
use Rattle.ring_log.specs.Opening.{Fresh}
use Rattle.page.specs.Page.{all}
use Rattle.page.proofs.All.{all_at, all_of, and_true, and_left, and_right}
use Rattle.ring_log.proofs.Window.{spare_cases, block_ne}

-- ---- booleans

-- one of two tests holds
pub or_true : (a b : Bool) → (a || b) ≡ true → (a ≡ true) ⊎ (b ≡ true)
or_true true b e = inl refl
or_true false b e = inr e

-- and the other way round
pub true_or : (a b : Bool) → (a ≡ true) ⊎ (b ≡ true) → (a || b) ≡ true
true_or true b e = refl
true_or false b (inl e) = absurd (true≢false (sym e))
true_or false b (inr e) = e

-- no test is both true and false
pub not_both : {b : Bool} → b ≡ true → b ≡ false → ⊥
not_both e d = true≢false (sym e ∙ d)

-- ---- the search for the head: what its loop knows

module _ (c : Chip) where
  -- block x + 1 could be the head
  abbrev pub Here : ℕ → Type 0
  Here x = (sealed c x ≡ true) × (sealed c (suc x) ≡ false)

  -- as the code tests it
  pub here_test : (x : ℕ) → Here x → (sealed c x && not (sealed c (suc x))) ≡ true
  here_test x h = rw (h.0, h.1)

  -- and the other way round
  pub test_here : (x : ℕ) → (sealed c x && not (sealed c (suc x))) ≡ true → Here x
  test_here x e =
      (and_left (sealed c x) (not (sealed c (suc x))) e, not-true (sealed c (suc x)) (and_right (sealed c x) (not (sealed c (suc x))) e))

  -- no block could be the head: it is 0
  pub head_none : (x n : ℕ) → ((y : ℕ) → x ≤ y → y < x + n → Here y → ⊥) → head_from c x n ≡ 0
  unfolding head_from
  head_none x zero h = refl
  head_none x (suc n) h = go (sealed c x && not (sealed c (suc x))) refl (head_none (suc x) n (λ y a b. h y (omega arith) (omega arith)))
    where
      go : (b : Bool) → (sealed c x && not (sealed c (suc x))) ≡ b → head_from c (suc x) n ≡ 0 → cond b (suc x) (head_from c (suc x) n) ≡ 0
      go true e ih = absurd (h x (omega arith) (omega arith) (test_here x e))
      go false e ih = ih

  -- block y + 1 could, and none before it: it is the head
  pub head_found : (x n y : ℕ) → x ≤ y → y < x + n → Here y → ((z : ℕ) → x ≤ z → z < y → Here z → ⊥) → head_from c x n ≡ suc y
  unfolding head_from
  head_found x zero y a b t h = absurd (omega arith)
  head_found x (suc n) y a b t h =
      go (sealed c x && not (sealed c (suc x))) refl (ℕ_discrete x y) (λ l. head_found (suc x) n y l (omega arith) t (λ z d f. h z (omega arith) f))
    where
      go : (b : Bool) → (sealed c x && not (sealed c (suc x))) ≡ b → Dec (x ≡ y) → (suc x ≤ y → head_from c (suc x) n ≡ suc y) → cond b (suc x) (head_from c (suc x) n) ≡ suc y
      go true e (yes d) ih = ap suc d
      go true e (no d) ih = absurd (h x (omega arith) (omega arith) (test_here x e))
      go false e (yes d) ih = absurd (not_both (here_test x (subst Here (sym d) t)) e)
      go false e (no d) ih = ih (omega arith)

-- ---- the ring gives the head

module _ (B : ℕ) (big : 4 ≤ B) (c : Chip) where
  -- no block before h is taken for the head, and none at all where h is 0
  not_sooner : (h : ℕ) → h < B → sealed c h ≡ false → First B c h ⊎ Later B c h → (y : ℕ) → (suc y < h) ⊎ (h ≡ 0) → y + 1 < B → Here c y → ⊥
  not_sooner h l o (inl f) y (inl a) b t = not_both (f.below (suc y) a) t.1
  not_sooner h l o (inl f) zero (inr a) b t = not_both t.0 (subst (λ (x : ℕ). sealed c x ≡ false) a o)
  not_sooner h l o (inl f) (suc y) (inr a) b t = not_both t.0 (f.above (16 * suc y + 15) (omega arith) (omega arith))
  not_sooner h l o (inr f) y side b t = go side (ℕ_discrete (suc y) (spare B h)) (spare_cases B h l)
    where
      at : (suc y < h) ⊎ (h ≡ 0) → suc y ≢ h
      at (inl a) e = omega arith
      at (inr a) e = omega arith

      go : (suc y < h) ⊎ (h ≡ 0) → Dec (suc y ≡ spare B h) → ((h + 1 < B) × ((h + 1) % B ≡ h + 1)) ⊎ ((h + 1 ≡ B) × ((h + 1) % B ≡ 0)) → ⊥
      go s (no d) k = not_both (f (suc y) (omega arith) (at s) d) t.1
      go (inl a) (yes d) (inl (p, q)) = omega arith
      go (inr a) (yes d) (inl (p, q)) = not_both t.0 (subst (λ (x : ℕ). sealed c x ≡ false) (let z : h ≡ y = omega arith in z) o)
      go s (yes d) (inr (p, q)) = omega arith

  before : (h : ℕ) → suc h < B → First B c (suc h) ⊎ Later B c (suc h) → sealed c h ≡ true
  before h l (inl f) = f.below h (omega arith)
  before h l (inr f) = f h (omega arith) (λ e. omega arith) (λ e. go e (spare_cases B (suc h) l))
    where
      go : h ≡ spare B (suc h) → ((suc h + 1 < B) × ((suc h + 1) % B ≡ suc h + 1)) ⊎ ((suc h + 1 ≡ B) × ((suc h + 1) % B ≡ 0)) → ⊥
      go e (inl (p, q)) = omega arith
      go e (inr (p, q)) = omega arith

  -- A RING'S HEAD IS THE ONE THAT THE SEALS SAY
  pub ring_head : (h : ℕ) → Ring B c h → head B c ≡ h
  unfolding head
  ring_head zero r =
      head_none c 0 (B - 1) (λ y a b. not_sooner 0 r.inside r.unsealed r.shape y (inr refl) (omega arith))
  ring_head (suc h) r =
      head_found c 0 (B - 1) h (omega arith) (omega (arith, r.inside)) (before h r.inside r.shape, r.unsealed)
      (λ z a b. not_sooner (suc h) r.inside r.unsealed r.shape z (inl (omega arith)) (omega (arith, r.inside)))

  -- ---- which round it is: the test of the oldest block's seal

  -- the block after the spare, by its number
  pub oldest_cases : (h : ℕ) → h < B → ((h + 2 < B) × ((h + 2) % B ≡ h + 2)) ⊎ ((B ≤ h + 2) × ((h + 2) % B ≡ h + 2 - B))
  oldest_cases h l = go (dec_lt (h + 2) B)
    where
      go : Dec (h + 2 < B) → ((h + 2 < B) × ((h + 2) % B ≡ h + 2)) ⊎ ((B ≤ h + 2) × ((h + 2) % B ≡ h + 2 - B))
      go (yes d) = inl (d, mod-eq_of_lt d)
      go (no d) =
          inr (
            omega arith,
            ap (λ (x : ℕ). x % B) (let z : h + 2 ≡ B + (h + 2 - B) = omega arith in z)
                ∙ add-mod_left B (h + 2 - B)
                ∙ mod-eq_of_lt (let z : h + 2 - B < B = omega arith in z),
          )

  -- the end of the first round is a later one
  first_later : (h : ℕ) → h < B → B ≤ h + 2 → First B c h → Later B c h
  first_later h l b f x i n m = go (dec_lt x h) (spare_cases B h l)
    where
      go : Dec (x < h) → ((h + 1 < B) × ((h + 1) % B ≡ h + 1)) ⊎ ((h + 1 ≡ B) × ((h + 1) % B ≡ 0)) → sealed c x ≡ true
      go (yes d) k = f.below x d
      go (no d) (inl (p, q)) = absurd (m (let z : x ≡ h + 1 = omega arith in z ∙ sym q))
      go (no d) (inr (p, q)) = absurd (omega arith)

  -- the oldest block is sealed: nothing is said of the spare
  pub round_later : (h : ℕ) → Ring B c h → sealed c ((h + 2) % B) ≡ true → Later B c h
  round_later h r t = go r.shape (oldest_cases h r.inside)
    where
      go : First B c h ⊎ Later B c h → ((h + 2 < B) × ((h + 2) % B ≡ h + 2)) ⊎ ((B ≤ h + 2) × ((h + 2) % B ≡ h + 2 - B)) → Later B c h
      go (inr f) k = f
      go (inl f) (inr (p, q)) = first_later h r.inside p f
      go (inl f) (inl (p, q)) =
          absurd (not_both (subst (λ (x : ℕ). sealed c x ≡ true) q t) (f.above (16 * (h + 2) + 15) (omega arith) (omega arith)))

  -- it is not: the first round
  pub round_first : (h : ℕ) → Ring B c h → sealed c ((h + 2) % B) ≡ false → Fresh B c h
  round_first h r t = go r.shape (oldest_cases h r.inside)
    where
      go : First B c h ⊎ Later B c h → ((h + 2 < B) × ((h + 2) % B ≡ h + 2)) ⊎ ((B ≤ h + 2) × ((h + 2) % B ≡ h + 2 - B)) → Fresh B c h
      go (inl f) (inl (p, q)) = (p, f)
      go (inl f) (inr (p, q)) = absurd (not_both (subst (λ (x : ℕ). sealed c x ≡ true) (sym q) (f.below (h + 2 - B) (omega (arith, r.inside)))) t)
      go (inr f) k = absurd (not_both (f ((h + 2) % B) (mod-lt (h + 2) (omega arith)) far near) t)
        where
          far : (h + 2) % B ≢ h
          far e = block_ne B h (h + 2) (omega arith) (omega arith) (mod-eq_of_lt r.inside ∙ sym e)

          near : (h + 2) % B ≢ spare B h
          near e = block_ne B (h + 1) (h + 2) (omega arith) (omega arith) (sym e)

-- ---- the test, both ways

module _ (B : ℕ) (c : Chip) (h : ℕ) where
  true_not : (b : Bool) → b ≡ false → not b ≡ true
  true_not b e = rw e

  -- the test for the first round
  pub test_first : first_test B c h ≡ true → First B c h
  unfolding first_test
  test_first e =
      record {
        below = λ b l. all_at (λ b. sealed c b) h b l (and_left (all (λ b. sealed c b) h) (all (λ i. not (c.full (16 * h + 16 + i))) (16 * B - (16 * h + 16))) e);
        above =
            λ q a b.
            let i : ℕ = q - (16 * h + 16) in
            let s : 16 * h + 16 + i ≡ q = omega arith in
            ap c.full (sym s)
            ∙ not-true (c.full (16 * h + 16 + i))
            (all_at (λ i. not (c.full (16 * h + 16 + i))) (16 * B - (16 * h + 16)) i (omega arith)
            (and_right (all (λ b. sealed c b) h) (all (λ i. not (c.full (16 * h + 16 + i))) (16 * B - (16 * h + 16))) e));
      }

  -- and the other way round
  pub first_test_lem : First B c h → first_test B c h ≡ true
  unfolding first_test
  first_test_lem f =
      and_true (all (λ b. sealed c b) h) (all (λ i. not (c.full (16 * h + 16 + i))) (16 * B - (16 * h + 16)))
      (all_of (λ b. sealed c b) h (λ y l. f.below y l))
      (all_of (λ i. not (c.full (16 * h + 16 + i))) (16 * B - (16 * h + 16)) (λ i l. true_not (c.full (16 * h + 16 + i)) (f.above (16 * h + 16 + i) (omega arith) (omega arith))))

  -- the test for a later round
  pub test_later : later_test B c h ≡ true → Later B c h
  unfolding later_test
  test_later e b l n m = go (or_true (eqb b h) (eqb b (spare B h) || sealed c b) (all_at (λ b. eqb b h || (eqb b (spare B h) || sealed c b)) B b l e))
    where
      then : (eqb b (spare B h) ≡ true) ⊎ (sealed c b ≡ true) → sealed c b ≡ true
      then (inl d) = absurd (m (eqb-true b (spare B h) d))
      then (inr d) = d

      go : (eqb b h ≡ true) ⊎ ((eqb b (spare B h) || sealed c b) ≡ true) → sealed c b ≡ true
      go (inl d) = absurd (n (eqb-true b h d))
      go (inr d) = then (or_true (eqb b (spare B h)) (sealed c b) d)

  -- and the other way round
  pub later_test_lem : Later B c h → later_test B c h ≡ true
  unfolding later_test
  later_test_lem f = all_of (λ b. eqb b h || (eqb b (spare B h) || sealed c b)) B (λ y l. go y l (ℕ_discrete y h) (ℕ_discrete y (spare B h)))
    where
      go : (y : ℕ) → y < B → Dec (y ≡ h) → Dec (y ≡ spare B h) → (eqb y h || (eqb y (spare B h) || sealed c y)) ≡ true
      go y l (yes d) k = true_or (eqb y h) (eqb y (spare B h) || sealed c y) (inl (eq-eqb y h d))
      go y l (no d) (yes k) =
          true_or (eqb y h) (eqb y (spare B h) || sealed c y) (inr (true_or (eqb y (spare B h)) (sealed c y) (inl (eq-eqb y (spare B h) k))))
      go y l (no d) (no k) =
          true_or (eqb y h) (eqb y (spare B h) || sealed c y) (inr (true_or (eqb y (spare B h)) (sealed c y) (inr (f y l d k))))

  -- THE TEST THAT START RUNS SAYS THAT THE CHIP IS A RING
  pub test_ring : ring_test B c h ≡ true → Ring B c h
  unfolding ring_test
  test_ring e =
      let p : (not (sealed c h) && (first_test B c h || later_test B c h)) ≡ true = and_right (leb (suc h) B) (not (sealed c h) && (first_test B c h || later_test B c h)) e in
      record {
        inside = leb-true (suc h) B (and_left (leb (suc h) B) (not (sealed c h) && (first_test B c h || later_test B c h)) e);
        unsealed = not-true (sealed c h) (and_left (not (sealed c h)) (first_test B c h || later_test B c h) p);
        shape = go (or_true (first_test B c h) (later_test B c h) (and_right (not (sealed c h)) (first_test B c h || later_test B c h) p));
      }
    where
      go : (first_test B c h ≡ true) ⊎ (later_test B c h ≡ true) → First B c h ⊎ Later B c h
      go (inl d) = inl (test_first d)
      go (inr d) = inr (test_later d)

  -- and it holds of every ring
  pub ring_test_lem : Ring B c h → ring_test B c h ≡ true
  unfolding ring_test
  ring_test_lem r =
      and_true (leb (suc h) B) (not (sealed c h) && (first_test B c h || later_test B c h)) (le-leb (suc h) B r.inside)
      (and_true (not (sealed c h)) (first_test B c h || later_test B c h) (true_not (sealed c h) r.unsealed)
      (true_or (first_test B c h) (later_test B c h) (go r.shape)))
    where
      go : First B c h ⊎ Later B c h → (first_test B c h ≡ true) ⊎ (later_test B c h ≡ true)
      go (inl f) = inl (first_test_lem f)
      go (inr f) = inr (later_test_lem f)

-- ---- the next place

module _ (c : Chip) (h : ℕ) where
  -- the next place of n is at most n
  pub next_le : (n : ℕ) → next_to c h n ≤ n
  unfolding next_to
  next_le zero = omega arith
  next_le (suc n) = go (c.full (16 * h + n)) (next_le n)
    where
      go : (b : Bool) → next_to c h n ≤ n → cond b (suc n) (next_to c h n) ≤ suc n
      go true ih = omega arith
      go false ih = omega arith

  -- from there on the pages are blank
  pub next_blank : (n j : ℕ) → next_to c h n ≤ j → j < n → c.full (16 * h + j) ≡ false
  unfolding next_to
  next_blank zero j a b = absurd (not-suc-le-zero b)
  next_blank (suc n) j a b = go (c.full (16 * h + n)) refl a (ℕ_discrete j n) (next_blank n j)
    where
      go : (x : Bool) → c.full (16 * h + n) ≡ x → cond x (suc n) (next_to c h n) ≤ j → Dec (j ≡ n) → (next_to c h n ≤ j → j < n → c.full (16 * h + j) ≡ false)
          → c.full (16 * h + j) ≡ false
      go true e a d ih = absurd (omega arith)
      go false e a (yes d) ih = ap (λ (y : ℕ). c.full (16 * h + y)) d ∙ e
      go false e a (no d) ih = ih a (omega arith)

  -- and it is the number of which that holds, if the page before it is not blank
  pub next_is : (n k : ℕ) → k ≤ n → ((j : ℕ) → k ≤ j → j < n → c.full (16 * h + j) ≡ false) → ((j : ℕ) → k ≡ suc j → c.full (16 * h + j) ≡ true) → next_to c h n ≡ k
  unfolding next_to
  next_is zero k l f g = omega arith
  next_is (suc n) k l f g = go (c.full (16 * h + n)) refl (ℕ_discrete k (suc n)) (λ m. next_is n k m (λ j a b. f j a (omega arith)) g)
    where
      go : (x : Bool) → c.full (16 * h + n) ≡ x → Dec (k ≡ suc n) → (k ≤ n → next_to c h n ≡ k) → cond x (suc n) (next_to c h n) ≡ k
      go true e (yes d) ih = sym d
      go true e (no d) ih = absurd (not_both e (f n (omega arith) (omega arith)))
      go false e (yes d) ih = absurd (not_both (g n d) e)
      go false e (no d) ih = ih (omega arith)

-- it goes by which pages are blank
pub next_cong : (c c' : Chip) (h n : ℕ) → ((j : ℕ) → j < n → c'.full (16 * h + j) ≡ c.full (16 * h + j)) → next_to c' h n ≡ next_to c h n
unfolding next_to
next_cong c c' h zero f = refl
next_cong c c' h (suc n) f = rw (f n (omega arith), next_cong c c' h n (λ j l. f j (omega arith)))
