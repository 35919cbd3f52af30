-- `start::replay_page` meets its contract. Assumes nothing.
use mathlib.Core.Path.{refl, ap, ◌∙◌}
use Rattle.std.specs.Prelude.{Some}
use Rattle.record.specs.Record.{key_on}
use Rattle.record.specs.declared.Kind.{Kind}
use Rattle.record.proofs.Reading.{read_kind}
use Rattle.start.proofs.Bridge.{replays_value, replays_note, replays_nothing}
use borrow.Author.Rules.{rules}
use Rattle.start.proofs.replay_page.Goals as goal

pub returns-in_default : goal.returns-in_default
returns-in_default c = record { within = search rules; right = replays_nothing c.args.chip.now c.args.p _ _ (read_kind _ _ _ _ _ c.page_at-page.ensures c.kind_of.ensures c.in_default.is) refl }

pub returns-in-Value : goal.returns-in-Value
returns-in-Value c =
    record { within = search rules; right = replays_value c.args.chip.now c.args.p _ _ _ _ (c.key_on.ensures ∙ ap key_on c.page_at-page.ensures) c.find-found.ensures.right (read_kind _ _ _ _ _ c.page_at-page.ensures c.kind_of.ensures (c.in-Some.is ∙ ap (λ (k : Kind). Some k) c.in-Value.is)) c.put_in.ensures.right }

pub returns-in-Note : goal.returns-in-Note
returns-in-Note c =
    record { within = search rules; right = replays_note c.args.chip.now c.args.p _ _ _ _ (c.key_on.ensures ∙ ap key_on c.page_at-page.ensures) c.find-found.ensures.right (read_kind _ _ _ _ _ c.page_at-page.ensures c.kind_of.ensures (c.in-Some.is ∙ ap (λ (k : Kind). Some k) c.in-Note.is)) c.take_out.ensures.right }
