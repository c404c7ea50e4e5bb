use Rattle.std.proofs.Common.{◌≡◌, ◌+◌, ◌++◌, List, [], ℕ, sym, ap, subst, subst₂, ◌∙◌, string_bytes}
use Rattle.std.proofs.lemmas.Str.{IsUtf8-string_bytes}
use Rattle.std.specs.List.{fold}
use Rattle.std.specs.Str.{chars}
use Rattle.cluster_text.specs.Endings.{IsEnding, ending_with}
use Rattle.cluster_text.specs.Parts.{IsGathered}
use Rattle.cluster_text.specs.declared.ending.Ending.{Ending}
use Rattle.cluster_text.proofs.EndingLemmas.{ending-all}
use Rattle.cluster_text.proofs.GatherLemmas.{ending-text, gathered-next, gathered-none}
use Rattle.cluster_text.proofs.replacing.gather.Goals as goal

pub parts-init : goal.parts-init
parts-init c =
    let text = string_bytes c.args.text.now in
    let is : c.pass_all-ending.result ≡ fold ending_with c.new.result (chars text) =
    c.pass_all-ending.ensures ∙ ap (λ (t : List ℕ). fold ending_with c.new.result (chars t)) c.as_str.ensures.value in (
      gathered-none c.args.parts.now text c.args.from c.requires.within,
      subst (λ (ending : Ending). IsEnding (chars text) ending) (sym is) (ending-all [] c.new.result (chars text) c.new.ensures),
    )

pub parts-preserved : goal.parts-preserved
parts-preserved c =
    let part = c.get-part.result.now in
    let text = string_bytes c.parts.text in
    let pushed : string_bytes c.push_str.new.self ≡ text ++ string_bytes part.text =
    c.in_ok-push_str.ensures.bytes ∙ ap (λ (t : List ℕ). text ++ t) c.as_str-in-parts.ensures.value in
    let is : c.pass_all-ending-in-parts.result ≡ fold ending_with c.parts.ending (chars (string_bytes part.text)) =
    c.pass_all-ending-in-parts.ensures ∙ ap (λ (t : List ℕ). fold ending_with c.parts.ending (chars t)) c.as_str-in-parts-2.ensures.value in (
      subst (λ (t : List ℕ). IsGathered c.args.parts.now (string_bytes c.args.text.now) t c.args.from (c.parts.behind + 1)) (sym pushed)
          (gathered-next _ _ _ _ _ c.parts.invariant.0 part c.get-part.ensures),
      subst₂ (λ (t : List ℕ) (ending : Ending). IsEnding (chars t) ending) (sym pushed) (sym is)
          (ending-text text (string_bytes part.text) c.parts.ending (IsUtf8-string_bytes c.parts.text) c.parts.invariant.1),
    )
