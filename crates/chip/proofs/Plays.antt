-- Runs of operations: one more, one run after another, nothing once the power is gone; and what calls did, put together. Assumes nothing.
use mathlib.Core.Path.{◌≡◌, refl, sym, ap, ◌∙◌, subst}
use mathlib.Core.List.{List, [], ◌∷◌, ◌++◌}
use Prim.Native.Nat.{ℕ, suc, ◌+◌, ◌-◌, ◌*◌, ◌≤◌}
use native.Mathlib.Omega.{arith}
use lib.ListN.{length, length-append}
use Rattle.chip.specs.Chip.{power, erased, written}
use Rattle.chip.specs.Play.{Op, erase, write, done, play, Allowed, EachAllowed, Writable, erases, writes, Did}
use Rattle.chip.proofs.Pages.{length_written, length_erased}

-- what is left of the number after no operation, and after one and n more
pub minus_none : (f : ℕ) → f - 0 ≡ f
minus_none f = omega arith

pub less : (f n : ℕ) → f - 1 - n ≡ f - suc n
less f n = omega arith

module _ (noise : List ℕ) where
  -- one run after another
  pub play_then : (rs os : List Op) (f : ℕ) (c : List ℕ) → play noise f (rs ++ os) c ≡ play noise (f - length rs) os (play noise f rs c)
  unfolding play
  play_then [] os f c = ap (λ (g : ℕ). play noise g os c) (sym (minus_none f))
  play_then (a ∷ rs) os f c =
      play_then rs os (f - 1) _ ∙ ap (λ (g : ℕ). play noise g os (play noise (f - 1) rs (done (power f) noise a c))) (less f (length rs))

  done_gone : (o : Op) (c : List ℕ) → done (power 0) noise o c ≡ c
  unfolding done erased written power
  done_gone (erase b) c = refl
  done_gone (write p new) c = refl

  -- FROM THE CUT ON NOTHING CHANGES
  pub play_gone : (os : List Op) (c : List ℕ) → play noise 0 os c ≡ c
  unfolding play
  play_gone [] c = refl
  play_gone (o ∷ os) c = play_gone os _ ∙ done_gone o c

  length_done : (f : ℕ) (o : Op) (c : List ℕ) → Allowed o c → length (done (power f) noise o c) ≡ length c
  unfolding done
  length_done f (erase b) c a = length_erased noise b c a (power f)
  length_done f (write p new) c a = length_written noise p new c a (power f)

  pub length_play : (os : List Op) (f : ℕ) (c : List ℕ) → EachAllowed noise f os c → length (play noise f os c) ≡ length c
  unfolding play EachAllowed
  length_play [] f c a = refl
  length_play (o ∷ os) f c a = length_play os (f - 1) _ a.1 ∙ length_done f o c a.0

  pub allowed_then : (rs os : List Op) (f : ℕ) (c : List ℕ) → EachAllowed noise f rs c → EachAllowed noise (f - length rs) os (play noise f rs c) → EachAllowed noise f (rs ++ os) c
  unfolding play EachAllowed
  allowed_then [] os f c a b = subst (λ (g : ℕ). EachAllowed noise g os c) (minus_none f) b
  allowed_then (o ∷ rs) os f c a b = (
    a.0,
    allowed_then rs os (f - 1) _ a.1
        (subst (λ (g : ℕ). EachAllowed noise g os (play noise (f - 1) rs (done (power f) noise o c))) (sym (less f (length rs))) b),
  )

pub erases_then : (rs os : List Op) → erases (rs ++ os) ≡ erases rs + erases os
erases_then [] os = omega arith
erases_then (erase b ∷ rs) os = omega (arith, erases_then rs os)
erases_then (write p new ∷ rs) os = erases_then rs os

pub writes_then : (rs os : List Op) → writes (rs ++ os) ≡ writes rs + writes os
writes_then [] os = omega arith
writes_then (erase b ∷ rs) os = writes_then rs os
writes_then (write p new ∷ rs) os = omega (arith, writes_then rs os)

-- ---- WHAT CALLS DID. (Unfoldable: the layers above say of their operations what they are to the ring)
module _ {noise : List ℕ} where
  unfoldable pub did_none : (c : List ℕ) (f : ℕ) → Did 0 0 noise c f c f
  unfolding play EachAllowed
  did_none c f = record { ops = []; allowed = tt; chip = refl; fuse = sym (minus_none f); few_erases = omega arith; few_writes = omega arith }

  unfoldable pub did_erase : (b : ℕ) (c c' : List ℕ) (f f' : ℕ) → 4096 * b + 4096 ≤ length c → c' ≡ erased (power f) noise b c → f' ≡ f - 1 → Did 1 0 noise c f c' f'
  unfolding play EachAllowed done
  did_erase b c c' f f' h e g =
      record { ops = erase b ∷ []; allowed = (h, tt); chip = e; fuse = g; few_erases = omega arith; few_writes = omega arith }

  unfoldable pub did_write : (p : ℕ) (new c c' : List ℕ) (f f' : ℕ) → Writable p new c → c' ≡ written (power f) noise p new c → f' ≡ f - 1 → Did 0 1 noise c f c' f'
  unfolding play EachAllowed done
  did_write p new c c' f f' w e g =
      record { ops = write p new ∷ []; allowed = (w, tt); chip = e; fuse = g; few_erases = omega arith; few_writes = omega arith }

  -- the page that was meant, as the code lays it out
  unfoldable pub did_meant : (p : ℕ) (g new c c' : List ℕ) (f f' : ℕ) → Writable p g c → new ≡ g → c' ≡ written (power f) noise p new c → f' ≡ f - 1 → Did 0 1 noise c f c' f'
  unfolding did_write
  did_meant p g new c c' f f' w n e k = did_write p g c c' f f' w (e ∙ ap (λ (l : List ℕ). written (power f) noise p l c) n) k

  -- within larger bounds
  unfoldable pub did_more : {x y x' y' f f' : ℕ} {c c' : List ℕ} → x ≤ x' → y ≤ y' → Did x y noise c f c' f' → Did x' y' noise c f c' f'
  did_more h k d =
      record { ops = d.ops; allowed = d.allowed; chip = d.chip; fuse = d.fuse; few_erases = omega (arith, d.few_erases); few_writes = omega (arith, d.few_writes) }

  -- one after the other
  unfoldable pub did_then : {x y x' y' f g k : ℕ} {c d e : List ℕ} → Did x y noise c f d g → Did x' y' noise d g e k → Did (x + x') (y + y') noise c f e k
  did_then {f = f} {g} {k} {c} {d} {e} a b =
      let run : EachAllowed noise (f - length a.ops) b.ops (play noise f a.ops c) =
      subst (λ (n : ℕ). EachAllowed noise n b.ops (play noise f a.ops c)) a.fuse (subst (λ (l : List ℕ). EachAllowed noise g b.ops l) a.chip b.allowed) in
      record {
        ops = a.ops ++ b.ops;
        allowed = allowed_then noise a.ops b.ops f c a.allowed run;
        chip =
            b.chip ∙ ap (λ (n : ℕ). play noise n b.ops d) a.fuse ∙ ap (play noise (f - length a.ops) b.ops) a.chip
            ∙ sym (play_then noise a.ops b.ops f c);
        fuse = omega (arith, a.fuse, b.fuse, length-append a.ops b.ops);
        few_erases = omega (arith, erases_then a.ops b.ops, a.few_erases, b.few_erases);
        few_writes = omega (arith, writes_then a.ops b.ops, a.few_writes, b.few_writes);
      }

  pub did_length : {x y f f' : ℕ} {c c' : List ℕ} → Did x y noise c f c' f' → length c' ≡ length c
  did_length {f = f} {c = c} d = ap length d.chip ∙ length_play noise d.ops f c d.allowed
