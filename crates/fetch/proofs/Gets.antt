-- Count and get: what the area says, and the answers of document 01. Assumes nothing.
use mathlib.Core.Path.{◌≡◌, refl, sym, ap, ◌∙◌, subst}
use mathlib.Core.List.{List}
use mathlib.Core.Option.{Option}
use Prim.Native.Nat.{ℕ, ◌<◌}
use lib.ListN.{length, take, drop, get_or}
use Rattle.ring_log.specs.Map.{lookup}
use Rattle.ring_log.specs.Answers.{lent, done, count_answer, gotten, get_answer}
use Rattle.ring_log.specs.Answers.{Answer as Says}
use Rattle.lent.specs.Area.{Sized, Checked, map_in, lent_of, Kept}
use Rattle.lent.specs.Tested.{lent_number, key_number, due, Tested}
use Rattle.fetch.specs.Fetched.{Counts, Gets, Fetches, CountEnds, GetEnds}
use Rattle.lent.proofs.Numbers.{refusal_some, lent_due, keyed_only, due_refused, tested_of}
use Rattle.lent.proofs.Held.{map_count}
use Rattle.lent.specs.Ended.{Answer, Done, Refused, refusal_number}
use Rattle.lent.specs.declared.Refusal.{Refusal}

-- ---- COUNT
module _ (c : List ℕ) (f : ℕ) (w : List ℕ) where
  count_due : count_answer (lent_of c f w) (map_in c) ≡ due (lent_number (lent_of c f w) 0) (done (length (map_in c)))
  count_due = lent_due (lent_of c f w) 0 (done (length (map_in c)))

  pub count_refused : (e : Refusal) → Tested c f w 0 (refusal_number e) → CountEnds c f w (Refused (refusal_number e))
  count_refused e t h =
      let k : ℕ = refusal_number e in
      subst (λ (s : Says ℕ). Counts s (Refused k)) (sym (count_due ∙ ap (λ (n : ℕ). due n (done (length (map_in c)))) (sym (t.due h)) ∙ due_refused k _ (refusal_some e))) (record { ends = refl })

  pub count_done : Tested c f w 0 0 → CountEnds c f w (Done (get_or w 3 0))
  count_done t h =
      let s : Sized c w = (t.checked refl).sized in
      subst (λ (x : Says ℕ). Counts x (Done (get_or w 3 0)))
      (sym (count_due ∙ ap (λ (i : ℕ). due i (done (length (map_in c)))) (sym (t.due h))))
      (record { ends = ap (λ (i : ℕ). Done i) (sym (map_count c w s (h.holds s (t.lit refl) (t.marked refl)))) })

-- ---- WHAT IS HANDED OUT: the answer is by the number i that is due of the arguments, and else what is wanted, o, goes to the buffer
module _ (c : List ℕ) (f : ℕ) (w b b' : List ℕ) (i : ℕ) (o : Option (List ℕ)) (s : Says (ℕ × List ℕ)) (e : s ≡ due (lent_number (lent_of c f w) i) (gotten b o)) where
  module _ (k : ℕ) (t : Tested c f w i k) (h : Kept c f w) where
    by_number : s ≡ due k (gotten b o)
    by_number = e ∙ ap (λ (n : ℕ). due n (gotten b o)) (sym (t.due h))

    pub got_refused : 0 < k → Gets b b s (Refused k)
    got_refused l = subst (λ (x : Says (ℕ × List ℕ)). Gets b b x (Refused k)) (sym (by_number ∙ due_refused k _ l)) (record { ends = (refl, refl) })

    -- the index is the part of the area from word 16 on
    pub got_fetched : (r : Answer) → k ≡ 0 → Fetches c (take (get_or w 3 0) (drop 16 w)) o b b' r → Gets b b' s r
    got_fetched r z g =
        let y : Checked c w = t.checked z in
        subst (λ (x : Says (ℕ × List ℕ)). Gets b b' x r) (sym (by_number ∙ ap (λ (n : ℕ). due n (gotten b o)) z))
        (g.right y.sized.some_blocks y.sized.whole (h.holds y.sized (t.lit z) (t.marked z)).ready.rows)

-- ---- GET
module _ (c : List ℕ) (f : ℕ) (w key b b' : List ℕ) where
  get_due : get_answer (lent_of c f w) key b (map_in c) ≡ due (lent_number (lent_of c f w) (key_number key 0)) (gotten b (lookup key (map_in c)))
  get_due =
      ap (lent (lent_of c f w)) (keyed_only key (gotten b (lookup key (map_in c)))) ∙ lent_due (lent_of c f w) (key_number key 0) (gotten b (lookup key (map_in c)))

  module _ (i : ℕ) (n : i ≡ key_number key 0) where
    pub get_refused : (e : Refusal) → Tested c f w i (refusal_number e) → GetEnds c f w key b b (Refused (refusal_number e))
    get_refused e t h =
        got_refused c f w b b (key_number key 0) (lookup key (map_in c)) _ get_due (refusal_number e) (tested_of c f w i _ _ n t) h (refusal_some e)

    pub get_fetched : (r : Answer) → Tested c f w i 0 → Fetches c (take (get_or w 3 0) (drop 16 w)) (lookup key (map_in c)) b b' r → GetEnds c f w key b b' r
    get_fetched r t g h = got_fetched c f w b b' (key_number key 0) (lookup key (map_in c)) _ get_due 0 (tested_of c f w i _ _ n t) h r refl g
