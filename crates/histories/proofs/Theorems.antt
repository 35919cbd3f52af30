-- THE THEOREMS of specs/Theorems.antt and specs/Walks.antt, for every B from 4 on. Assumes nothing.
use mathlib.Core.List.{List, []}
use Prim.Native.Nat.{ℕ, ◌≤◌}
use Rattle.chip.specs.Play.{Op}
use Rattle.ring_log.specs.Key.{Key}
use Rattle.lent.specs.Ended.{Answer}
use Rattle.histories.specs.History.{Phase, on, History}
use Rattle.histories.specs.Theorems.{Ever, Calls, Formatted}
use Rattle.histories.specs.Walks.{Call, Walks, Given, Answers}
use Rattle.histories.proofs.Histories as histories
use Rattle.histories.proofs.Answered as answered
use Rattle.histories.proofs.Printed as printed
use Rattle.histories.proofs.Short as short
use Rattle.histories.proofs.Walks as walks
use Rattle.histories.proofs.Formatted as formatted

module _ (B : ℕ) (big : 4 ≤ B) where
  pub ever : {s : Phase} {c : List ℕ} {n q : ℕ} {ops : List Op} (h : History B s c n q ops) → Ever B h
  ever h =
      record {
        right = histories.right B big h;
        start_done = histories.start_done B big h;
        was_put = λ k v e. answered.was_put B big k v h e;
        wear_even = histories.wear_even B big h;
        wear_few = histories.wear_few B big h;
        wear_asked = histories.wear_asked B big h;
        keys_printed = λ y k v e. printed.keys_printed B big h y k (v, e);
      }

  pub calls : {noise : List ℕ} {f : ℕ} {w c : List ℕ} {n q : ℕ} {ops : List Op} (h : History B (on noise f w) c n q ops) → Calls B h
  calls h =
      record {
        put_on = answered.put_on B big h;
        delete_on = answered.delete_on B big h;
        get_on = answered.get_on B big h;
        count_on = answered.count_on B big h;
        next_on = answered.next_on B big h;
        put_short = short.put_short B big h;
        delete_short = short.delete_short B big h;
        put_never_9 = answered.put_never_9 B big h;
        delete_never_9 = answered.delete_never_9 B big h;
        got_was_put = answered.got_was_put B big h;
      }

  pub format : Formatted B
  format = record { format_begins = formatted.format_begins B; format_again = formatted.format_again }

  pub given : {cs : List (List ℕ)} {js : List Key} (w : Walks B [] cs js) → Given B w
  given w =
      record {
        rise = walks.given_rise B big w;
        never_twice = walks.given_never_twice B big w;
        had = walks.given_had B big w;
        once = walks.given_once B big w;
        all = walks.given_all B big w;
        short = walks.given_short B big w;
      }

  pub answers : {k c b' : List ℕ} {r : Answer} (a : Call B k c r b') → Answers B a
  answers a = record { answers = walks.call_answers B big a }
