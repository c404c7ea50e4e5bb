use Rattle.std.proofs.Common.{ap, refl, ◌∙◌, ◌+◌, ◌-◌}
use Rattle.std.specs.Prelude.{is_some}
use Rattle.fugue_ids.specs.Identifiers.{Identifier}
use Rattle.causal_inbox.specs.Key.{key_of_naming}
use Rattle.causal_inbox.proofs.RangeLemmas.{from_entry, no_entry_from}
use Rattle.causal_inbox.proofs.index.has_list_from.Goals as goal

pub returns-in-Some : goal.returns-in-Some
returns-in-Some c =
    let range = c.range.ensures.in_range c.new.ensures.exhausted in
    let entry = range.3 _ _ c.in-Some.ensures.steps in (
      λ yes. from_entry c.args.lists.now c.args.first c.args.count _ _ _ c.requires.some (c.new.ensures.start ∙ c.own_key.ensures)
          (c.new.ensures.end ∙ c.named_key.ensures ∙ ap
          (λ (x : Identifier). key_of_naming (record { replica = x.replica; counter = x.counter + (c.args.count - 1) })) c.first.view_is)
          entry.0.0 entry.0.1 (ap is_some entry.1),
      λ l. refl,
    )

pub returns-in-None : goal.returns-in-None
returns-in-None c =
    let range = c.range.ensures.in_range c.new.ensures.exhausted in (
      λ e. cc,
      λ l. absurd (no_entry_from c.args.lists.now c.args.first c.args.count _ _ c.requires.some (c.new.ensures.start ∙ c.own_key.ensures)
          (c.new.ensures.end ∙ c.named_key.ensures ∙ ap
          (λ (x : Identifier). key_of_naming (record { replica = x.replica; counter = x.counter + (c.args.count - 1) })) c.first.view_is)
          (range.5 c.in-None.ensures.steps.0) l),
    )
