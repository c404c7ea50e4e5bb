use Rattle.std.proofs.Common.{map, take, ◌≡◌}
use Rattle.std.specs.Str.{encode_utf8_all}
use Rattle.origin_model.specs.order.Printed.{text}
use Rattle.catalogue_notes.specs.Outlining.{entry_sections}
use Rattle.passage_remarks.proofs.pages.pages_of.Given as goal

-- the sections that were passed have their texts
abbrev pub invariant-sections : goal.invariant-sections
invariant-sections l = l.pages.items ≡ map (λ s. encode_utf8_all (text l.replica.held.history s)) (take l.section-index (entry_sections l.sections))
