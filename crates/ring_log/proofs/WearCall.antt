-- What a call wears: which blocks it opened, what it erased, and that the potential pays. A failure of the power costs one erase at most. Assumes nothing.
use mathlib.Core.Path.{◌≡◌, refl, sym, ap, ◌∙◌, subst}
use mathlib.Core.Logic.{◌≢◌, ◌⊎◌, inl, inr}
use mathlib.Core.List.{List, [], ◌∷◌, ◌++◌}
use mathlib.Core.Bool.{Bool, true, false}
use Prim.Native.Nat.{ℕ, suc, ◌+◌, ◌-◌, ◌*◌, ◌/◌, ◌%◌, ◌≤◌, ◌<◌}
use native.Mathlib.Nat.{mul-le-mul_left}
use native.Mathlib.Decide.{dec_lt}
use native.Mathlib.Omega.{arith}
use lib.ListN.{length}
use Rattle.chip.specs.Play.{Op, erase, write, erases}
use Rattle.record.specs.Record.{Rec}
use Rattle.ring_log.specs.Log.{page_of, oldest, U}
use Rattle.ring_log.specs.Ring.{Chip, sealed, spare, Ring, head, table, room}
use Rattle.ring_log.specs.Call.{Page, Block, State, resting, copying, chip_at, Cursor, on, back, Trace, stop, pass, carry, carry_cut, append, append_cut, erasing, erase_cut, first, skip, copy, copy_cut, seal, seal_cut}
use Rattle.ring_log.specs.Wear.{potential, weights, only, erases_of, missed}
use Rattle.ring_log.specs.Opening.{fresh}
use Rattle.ring_log.proofs.Window.{page_unsealed}
use Rattle.ring_log.proofs.RingLaws.{ring_head, round_later}
use Rattle.ring_log.proofs.Steps.{Written, Spoilt, unsealed_ring, unsealed_full}
use Rattle.ring_log.proofs.Start.{blank_ring}
use Rattle.ring_log.proofs.Opening.{copy_still}
use Rattle.ring_log.proofs.Potential.{block_potential, unsealed_potential}
use Rattle.ring_log.proofs.Append.{place, put_paid, lost_paid}
use Rattle.ring_log.proofs.Crash.{append_written, append_cut_at, append_done, append_lost, erase_lost, skip_done, copy_done, copy_lost}
use Rattle.ring_log.proofs.Carry.{carry_paid, carry_lost}
use Rattle.ring_log.proofs.CallCost.{Rest, Copies, carry_fits, erased_fits, first_fits, on_fits, seal_fits, seal_paid, blank_potential}
use Rattle.ring_log.proofs.Numbered.{Numbered, numbered_spare, numbered_blank, numbered_kept, numbered_next}
use Rattle.ring_log.proofs.Even.{Event, opens, again, lost, openings, failures, strike, load, even, few}

module _ (B : ℕ) where
  -- what holds at each state of a call: the events before it are E
  abbrev Fit : List Event → State → Type 0
  Fit E (resting c h) = Rest B c h × Numbered B c h (openings E)
  Fit E (copying h c₀ c t s) = Copies B h c₀ c t s × Numbered B c h (openings E)

  -- the potential at the last rest
  abbrev cost : State → ℕ
  cost (resting c h) = potential B c
  cost (copying h c₀ c t s) = potential B c₀

  -- the erases up to here: one is pending while values are copied
  abbrev base : (ℕ → ℕ) → List Event → State → ℕ
  base g E (resting c h) = load B g E
  base g E (copying h c₀ c t s) = strike B g (openings E) + load B g E

  -- what a call leaves, from a state st on: the events, a ring and its number, what was paid; `fails` failures more, and erases of the weight n
  pub record Left (fails : ℕ) (n : (ℕ → ℕ) → ℕ) (E : List Event) (st : State) (c' : Chip) : Type 0 where
    pub events : List Event
    pub at : ℕ
    pub ring : Ring B c' at
    pub number : Numbered B c' at (openings events)
    pub paid : potential B c' + (B - 2) * ((U - 9) * U * openings events) ≤ cost st + (U - 1) * (B - 2) + (B - 2) * ((U - 9) * U * openings E)
    pub failed : failures events ≡ failures E + fails
    pub worn : (g : ℕ → ℕ) → load B g events ≡ base g E st + n g

module _ (B : ℕ) (big : 4 ≤ B) (x : Rec) where
  -- ---- seals of the other blocks stay

  seals_page : (c c' : Chip) (s b : ℕ) → Page (page_of B s) c c' → sealed c' b ≡ sealed c b
  seals_page c c' s b w = w.full (16 * b + 15) (λ e. page_unsealed B s b (sym e))

  seals_block : (c c' : Chip) (a b : ℕ) → Block a c c' → b ≢ a → sealed c' b ≡ sealed c b
  seals_block c c' a b w n = w.full (16 * b + 15) (λ e. n (let z : (16 * b + 15) / 16 ≡ b = omega arith in sym z ∙ e))

  -- ---- what an opening erases is what `strike` says

  strike_yes : (g : ℕ → ℕ) (c : Chip) (h : ℕ) (E : List Event) → Numbered B c h (openings E) → sealed c ((h + 2) % B) ≡ true → strike B g (openings E) ≡ g (spare B h)
  unfolding strike
  strike_yes g c h E n t = rw (sym n.erases ∙ t) (ap g (sym (numbered_spare B big c h (openings E) n)))

  strike_no : (g : ℕ → ℕ) (c : Chip) (h : ℕ) (E : List Event) → Numbered B c h (openings E) → sealed c ((h + 2) % B) ≡ false → strike B g (openings E) ≡ 0
  unfolding strike
  strike_no g c h E n t = rw (sym n.erases ∙ t)

  -- ---- the power goes between two operations

  stopped : (E : List Event) (st : State) → Fit B E st → Left B 1 (λ g. 0) E st (chip_at st)
  stopped E (resting c h) (g, n) =
      record { events = lost ∷ E; at = h; ring = g.ring; number = n; paid = omega arith; failed = omega arith; worn = λ q. omega arith }
  stopped E (copying h c₀ c t s) (g, n) =
      record { events = again ∷ E; at = h; ring = g.opening.ring; number = n; paid = omega (arith, g.opening.still); failed = omega arith; worn = λ q. omega arith }

  -- ---- in the seal: an opening more, or one that came to nothing
  sealing : (E : List Event) (h : ℕ) (c₀ c c' : Chip) (s : ℕ) → Page (16 * h + 15) c c' → Fit B E (copying h c₀ c (oldest B (h + B) + 15) s)
      → Left B 1 (λ g. 0) E (copying h c₀ c (oldest B (h + B) + 15) s) c'
  sealing E h c₀ c c' s w (g, n) = go (sealed c' h) refl
    where
      go : (b : Bool) → sealed c' h ≡ b → Left B 1 (λ g. 0) E (copying h c₀ c (oldest B (h + B) + 15) s) c'
      go true on =
          let r : Rest B c' (spare B h) = seal_fits B big h c₀ c c' s w on g in
          record {
            events = lost ∷ opens ∷ E;
            at = spare B h;
            ring = r.ring;
            number = numbered_next B big c c' h (openings E) g.opening.ring g.opening.round w on n;
            paid = omega (arith, seal_paid B big h c₀ c c' s w on g);
            failed = omega arith;
            worn = λ q. omega arith;
          }
      go false off =
          record {
            events = again ∷ E;
            at = h;
            ring = unsealed_ring B big c c' h g.opening.ring w off;
            number =
                numbered_kept B big c c' h (openings E) g.opening.ring.inside
                (λ b k. unsealed_full B big c c' h g.opening.ring w off (16 * b + 15)) n;
            paid = omega (arith, g.opening.still, unsealed_potential B big c c' h g.opening.ring w off);
            failed = omega arith;
            worn = λ q. omega arith;
          }

  -- ---- WHAT A CALL WEARS, from any state of it
  wear_from : (E : List Event) (u : Cursor) (st : State) (c' : Chip) (p : ℕ) (l : List Op) (b : Bool) → Trace B x u st c' p l b → length (table B c') ≤ room B → Fit B E st
      → Left B (missed b) (λ g. weights g l) E st c'
  wear_from E u _ _ _ _ _ (stop _ st) fits g = stopped E st g
  wear_from E u _ _ _ _ _ (pass _ c c' h p l b n looks dead k) fits g = wear_from E (on u) (resting c h) c' p l b k fits g
  wear_from E u _ _ _ _ _ (carry _ c d c' h p new l b r a n looks live w k) fits (g, m) =
      let v : Written B (place B big c h) r c d = append_written B big c d h g.ring n r w in
      let y : Left B (missed b) (λ q. weights q l) E (resting d h) c' =
      wear_from E (on u) (resting d h) c' p l b k fits (
        carry_fits B big u c d h r a n looks live w g,
        numbered_kept B big c d h (openings E) g.ring.inside (λ b k. seals_page c d (place B big c h) b v.page) m,
      ) in
      record {
        events = y.events;
        at = y.at;
        ring = y.ring;
        number = y.number;
        paid = omega (arith, y.paid, carry_paid B big u c d h g.ring n looks r a live v g.few);
        failed = y.failed;
        worn = λ q. y.worn q;
      }
  wear_from E u _ _ _ _ _ (carry_cut _ c c' h new r a n looks live w) fits (g, m) = go (append_cut_at B big c c' h g.ring n r w)
    where
      left : Page (page_of B (place B big c h)) c c' → potential B c' ≤ potential B c + (U - 1) * (B - 2) → Left B 1 (λ q. 0) E (resting c h) c'
      left f y =
          record {
            events = lost ∷ E;
            at = h;
            ring = (carry_lost B big u c c' h g.ring n looks r a live w).0;
            number = numbered_kept B big c c' h (openings E) g.ring.inside (λ b k. seals_page c c' (place B big c h) b f) m;
            paid = omega arith;
            failed = omega arith;
            worn = λ q. omega arith;
          }

      go : Written B (place B big c h) r c c' ⊎ Spoilt B (place B big c h) c c' → Left B 1 (λ q. 0) E (resting c h) c'
      go (inl v) = left v.page (omega (arith, carry_paid B big u c c' h g.ring n looks r a live v g.few))
      go (inr v) = left v.page (lost_paid B big c c' h g.ring n v g.few)
  wear_from E u _ _ _ _ _ (append _ c c' h new n z w) fits (g, m) =
      record {
        events = E;
        at = h;
        ring = (append_done B big c c' h g.ring n x w).0;
        number =
            numbered_kept B big c c' h (openings E) g.ring.inside
            (λ b k. seals_page c c' (place B big c h) b (append_written B big c c' h g.ring n x w).page) m;
        paid = omega (arith, put_paid B big c c' h g.ring n x (append_written B big c c' h g.ring n x w) fits);
        failed = omega arith;
        worn = λ q. omega arith;
      }
  wear_from E u _ _ _ _ _ (append_cut _ c c' h new n z w) fits (g, m) = go (append_cut_at B big c c' h g.ring n x w)
    where
      left : Page (page_of B (place B big c h)) c c' → potential B c' ≤ potential B c + (U - 1) * (B - 2) → Left B 1 (λ q. 0) E (resting c h) c'
      left p y =
          record {
            events = lost ∷ E;
            at = h;
            ring = (append_lost B big c c' h g.ring n x w).0;
            number = numbered_kept B big c c' h (openings E) g.ring.inside (λ b k. seals_page c c' (place B big c h) b p) m;
            paid = omega arith;
            failed = omega arith;
            worn = λ q. omega arith;
          }

      go : Written B (place B big c h) x c c' ⊎ Spoilt B (place B big c h) c c' → Left B 1 (λ q. 0) E (resting c h) c'
      go (inl v) = left v.page (put_paid B big c c' h g.ring n x v fits)
      go (inr v) = left v.page (lost_paid B big c c' h g.ring n v g.few)
  wear_from E u _ _ _ _ _ (erasing _ c d c' h p l b n t w k) fits (g, m) =
      let y : Left B (missed b) (λ q. weights q l) E (copying h c d (oldest B (h + B)) (fresh B h)) c' =
      wear_from E u (copying h c d (oldest B (h + B)) (fresh B h)) c' p l b k fits
      (erased_fits B big c d h n t w g, numbered_kept B big c d h (openings E) g.ring.inside (λ a e. seals_block c d (spare B h) a w.block e) m) in
      record {
        events = y.events;
        at = y.at;
        ring = y.ring;
        number = y.number;
        paid = y.paid;
        failed = y.failed;
        worn = λ q. omega (arith, strike_yes q c h E m t, y.worn q);
      }
  wear_from E u _ _ _ _ _ (erase_cut _ c c' h n t w) fits (g, m) =
      record {
        events = again ∷ E;
        at = h;
        ring = (erase_lost B big c c' h g.ring t w).0;
        number = numbered_kept B big c c' h (openings E) g.ring.inside (λ a e. seals_block c c' (spare B h) a w e) m;
        paid = omega (arith, block_potential B big c c' h g.ring w (round_later B big c h g.ring t));
        failed = omega arith;
        worn = λ q. omega (arith, strike_yes q c h E m t);
      }
  wear_from E u _ _ _ _ _ (first _ c c' h p l b n t k) fits (g, m) =
      let y : Left B (missed b) (λ q. weights q l) E (copying h c c (oldest B (h + B)) (fresh B h)) c' =
      wear_from E u (copying h c c (oldest B (h + B)) (fresh B h)) c' p l b k fits (first_fits B big c h n t g, m) in
      record {
        events = y.events;
        at = y.at;
        ring = y.ring;
        number = y.number;
        paid = y.paid;
        failed = y.failed;
        worn = λ q. omega (arith, strike_no q c h E m t, y.worn q);
      }
  wear_from E u _ _ _ _ _ (skip _ h c₀ c c' t s p l b i dead k) fits (g, m) =
      let y : Left B (missed b) (λ q. weights q l) E (copying h c₀ c (suc t) s) c' =
      wear_from E u (copying h c₀ c (suc t) s) c' p l b k fits (on_fits B big h c₀ c c t s s (skip_done B big c c h c₀ t s i dead g.opening) g, m) in
      record { events = y.events; at = y.at; ring = y.ring; number = y.number; paid = y.paid; failed = y.failed; worn = y.worn }
  wear_from E u _ _ _ _ _ (copy _ h c₀ c d c' t s p new l b r a i at live stands w k) fits (g, m) =
      let y : Left B (missed b) (λ q. weights q l) E (copying h c₀ d (suc t) (suc s)) c' =
      wear_from E u (copying h c₀ d (suc t) (suc s)) c' p l b k fits (
        on_fits B big h c₀ c d t s (suc s) (copy_done B big c d h c₀ t s r a g.low i at live stands g.opening w) g,
        numbered_kept B big c d h (openings E) g.opening.ring.inside (λ b k. seals_page c d s b w.page) m,
      ) in
      record { events = y.events; at = y.at; ring = y.ring; number = y.number; paid = y.paid; failed = y.failed; worn = λ q. y.worn q }
  wear_from E u _ _ _ _ _ (copy_cut _ h c₀ c c' t s new r a i at live stands w) fits (g, m) =
      record {
        events = again ∷ E;
        at = h;
        ring = (copy_lost B big c c' h c₀ t s r a g.low i at live stands g.opening w).0;
        number = numbered_kept B big c c' h (openings E) g.opening.ring.inside (λ b k. seals_page c c' s b w.page) m;
        paid = omega (arith, copy_still B big h c₀ c c' t s r r a g.low i at live stands g.opening w.page);
        failed = omega arith;
        worn = λ q. omega arith;
      }
  wear_from E u _ _ _ _ _ (seal _ h c₀ c d c' s p new l b w k) fits (g, m) =
      let y : Left B (missed b) (λ q. weights q l) (opens ∷ E) (resting d (spare B h)) c' =
      wear_from (opens ∷ E) (back u) (resting d (spare B h)) c' p l b k fits
      (seal_fits B big h c₀ c d s w.page w.fills g, numbered_next B big c d h (openings E) g.opening.ring g.opening.round w.page w.fills m) in
      record {
        events = y.events;
        at = y.at;
        ring = y.ring;
        number = y.number;
        paid = omega (arith, y.paid, seal_paid B big h c₀ c d s w.page w.fills g);
        failed = y.failed;
        worn = λ q. omega (arith, y.worn q);
      }
  wear_from E u _ _ _ _ _ (seal_cut _ h c₀ c c' s new w) fits g = sealing E h c₀ c c' s w.page g

-- ---- WEAR: n calls, q failures of the power, and the operations that were begun

weights_then : (g : ℕ → ℕ) (l m : List Op) → weights g (l ++ m) ≡ weights g l + weights g m
weights_then g [] m = omega arith
weights_then g (erase b ∷ l) m = omega (arith, weights_then g l m)
weights_then g (write p new ∷ l) m = weights_then g l m

ones : (l : List Op) → weights (λ b. 1) l ≡ erases l
ones [] = refl
ones (erase b ∷ l) = omega (arith, ones l)
ones (write p new ∷ l) = ones l

-- what is true of the chip that they left
pub record Worn (B n q : ℕ) (ops : List Op) (c : Chip) : Type 0 where
  pub events : List Event
  pub at : ℕ
  pub ring : Ring B c at
  pub number : Numbered B c at (openings events)
  pub paid : potential B c + (B - 2) * ((U - 9) * U * openings events) ≤ (B - 2) * ((U - 1) * n)
  pub failed : failures events ≡ q
  pub worn : (g : ℕ → ℕ) → load B g events ≡ weights g ops

module _ (B : ℕ) (big : 4 ≤ B) where
  -- none yet
  pub worn_blank : (c : Chip) → ((p : ℕ) → p < 16 * B → c.full p ≡ false) → Worn B 0 0 [] c
  worn_blank c f =
      record {
        events = [];
        at = 0;
        ring = blank_ring B big c f;
        number = numbered_blank B big c f;
        paid = omega (arith, blank_potential B big c f);
        failed = refl;
        worn = λ g. refl;
      }

  -- the power fails between two calls
  pub worn_dark : (n q : ℕ) (ops : List Op) (c : Chip) → Worn B n q ops c → Worn B n (suc q) ops c
  worn_dark n q ops c y =
      record { events = lost ∷ y.events; at = y.at; ring = y.ring; number = y.number; paid = y.paid; failed = ap suc y.failed; worn = y.worn }

  -- a call more
  pub worn_call : (n q : ℕ) (ops : List Op) (x : Rec) (u : Cursor) (c c' : Chip) (p : ℕ) (l : List Op) (b : Bool) → length (table B c) ≤ room B → length (table B c') ≤ room B
      → Trace B x u (resting c (head B c)) c' p l b → Worn B n q ops c → Worn B (suc n) (q + missed b) (ops ++ l) c'
  worn_call n q ops x u c c' p l b few fits t y =
      let e : y.at ≡ head B c = sym (ring_head B big c y.at y.ring) in
      let z : Left B (missed b) (λ g. weights g l) y.events (resting c (head B c)) c' =
      wear_from B big x y.events u (resting c (head B c)) c' p l b t fits
      (record { ring = subst (Ring B c) e y.ring; few = few }, subst (λ (h : ℕ). Numbered B c h (openings y.events)) e y.number) in
      record {
        events = z.events;
        at = z.at;
        ring = z.ring;
        number = z.number;
        paid = omega (arith, z.paid, y.paid);
        failed = z.failed ∙ ap (λ (k : ℕ). k + missed b) y.failed;
        worn = λ g. z.worn g ∙ ap (λ (k : ℕ). k + weights g l) (y.worn g) ∙ sym (weights_then g ops l);
      }

  module _ (n q : ℕ) (ops : List Op) (c : Chip) (y : Worn B n q ops c) where
    -- EVEN: no two blocks differ by more than 1 + q
    pub worn_even : (i j : ℕ) → i < B → j < B → erases_of i ops ≤ erases_of j ops + (1 + q)
    worn_even i j a b =
        let e : B - 2 + 2 ≡ B = omega arith in
        let k : load B (only i) y.events ≤ load B (only j) y.events + (1 + failures y.events) =
        subst (λ (z : ℕ). load z (only i) y.events ≤ load z (only j) y.events + (1 + failures y.events)) e (even (B - 2) y.events i j (omega arith) (omega arith)) in
        omega (arith, k, y.worn (only i), y.worn (only j), y.failed)

    -- FEW: all erases together are at most n / 6 + q
    pub worn_few : 6 * erases ops ≤ n + 6 * q
    worn_few =
        let e : B - 2 + 2 ≡ B = omega arith in
        let k : 6 * load B (λ b. 1) y.events ≤ n + 6 * failures y.events =
        subst (λ (z : ℕ). 6 * load z (λ b. 1) y.events ≤ n + 6 * failures y.events) e (few (B - 2) y.events n (six (dec_lt n (6 * openings y.events)))) in
        omega (arith, k, y.worn (λ b. 1), y.failed, ones ops)
      where
        -- an opening gives back what 90 / 14 calls raise it by
        six : Dec (n < 6 * openings y.events) → 6 * openings y.events ≤ n
        six (no l) = omega arith
        six (yes l) =
            let z : 14 * n + 14 ≤ 84 * openings y.events = omega arith in
            absurd (omega (arith, mul-le-mul_left (B - 2) z, y.paid))
