use Rattle.std.proofs.Common.{◌++◌, List, sym, ap, ◌∙◌, append_assoc, append-nil, rules, tests}
use Rattle.std.proofs.lemmas.List.{nil_from_length}
use Rattle.std.specs.Prelude.{string_bytes}
use Rattle.cluster_text.specs.Parts.{whole}
use Rattle.cluster_text.specs.declared.part.Part.{Part}
use Rattle.cluster_text.proofs.PartLemmas.{whole-push}
use Rattle.cluster_text.proofs.cutting.cut_up.Goals as goal

pub parts-preserved : goal.parts-preserved
parts-preserved c =
    let part = c.in_ok-new.field-0 in
    let rest = c.split_part.result.1.now in
    let pushed = ap (λ (ps : List Part). whole ps ++ rest) c.in_ok-push.ensures.ok
    ∙ ap (λ t. t ++ rest) (whole-push c.parts.parts part)
    ∙ append_assoc (whole c.parts.parts) (string_bytes part.text) rest
    ∙ ap (λ t. whole c.parts.parts ++ (t ++ rest)) c.in_ok-new.ensures
    ∙ ap (λ t. whole c.parts.parts ++ t) (sym c.split_part.ensures.text)
    ∙ c.parts.invariant.1 in
    (c.split_part.ensures.utf8, pushed, c.split_part.ensures.rest)

pub returns : goal.returns
returns c =
    let none = nil_from_length c.parts.rest.now (search (rules, tests)) in
    sym (append-nil (whole c.parts.parts)) ∙ ap (λ t. whole c.parts.parts ++ t) (sym none) ∙ c.parts.invariant.1
