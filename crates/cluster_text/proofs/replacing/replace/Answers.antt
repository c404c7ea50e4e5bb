use Rattle.std.proofs.Common.{◌≡◌, ◌≤◌, ◌+◌, ◌-◌, List, ℕ, ap, subst, ◌∙◌, string_bytes, arith}
use Rattle.std.specs.Str.{chars}
use Rattle.std.specs.List.{splice}
use Rattle.std.specs.Prelude.{encode_utf8_all}
use Rattle.cluster_text.specs.Boundaries.{stands_alone}
use Rattle.cluster_text.specs.Parts.{IsGathered, whole}
use Rattle.cluster_text.proofs.PartLemmas.{length-le-scalar_count}
use Rattle.cluster_text.proofs.SpotLemmas.{replaced_is, spot-index, spots_rise, text_alone}
use Rattle.cluster_text.proofs.replacing.replace.Goals as goal

pub get-requires-clause-few : goal.get-requires-clause-few
get-requires-clause-few c = omega (arith, length-le-scalar_count c.args.parts.now, c.requires.few)

pub get-requires-2-clause-few : goal.get-requires-2-clause-few
get-requires-2-clause-few c = omega (arith, length-le-scalar_count c.args.parts.now, c.requires.few)

pub gather-requires-clause-few : goal.gather-requires-clause-few
gather-requires-clause-few c = omega (arith, length-le-scalar_count c.args.parts.now, c.requires.few)

pub overflow_add-last : goal.overflow_add-last
overflow_add-last c =
    omega (arith, spot-index _ _ _ _ c.find_spot-last.ensures, length-le-scalar_count c.args.parts.now, c.requires.few)

pub cut_up-requires : goal.cut_up-requires
cut_up-requires c =
    let text = string_bytes c.gather.new.text in
    let way = subst (λ (t : List ℕ). IsGathered c.args.parts.now t text (c.find_spot-last.result.part + 1) c.in_ok-behind.behind) c.in_ok-text.ensures
    c.in_ok-behind.ensures.gathered in
    ap stands_alone c.as_str.ensures.value
    ∙ text_alone c.args.parts.now (c.args.at - 1) c.args.end _ _ _ _ c.find_spot-first.ensures c.find_spot-last.ensures c.get.result.now c.get-2.result.now c.get.ensures
    c.get-2.ensures
    c.args.new.now text c.utf8.new _ way c.in_ok-behind.ensures.closed c.requires.closed

pub splice-requires : goal.splice-requires
splice-requires c =
    let order : c.args.at - 1 ≤ c.args.end = omega (arith, c.requires.order) in
    let rise = spots_rise c.args.parts.now (c.args.at - 1) c.args.end _ _ _ _ c.find_spot-first.ensures c.find_spot-last.ensures order in
    omega (arith, rise, c.in_ok-behind.ensures.gathered.order)

pub returns-clause-ok : goal.returns-clause-ok
returns-clause-ok c =
    let text = string_bytes c.gather.new.text in
    let way = subst (λ (t : List ℕ). IsGathered c.args.parts.now t text (c.find_spot-last.result.part + 1) c.in_ok-behind.behind) c.in_ok-text.ensures
    c.in_ok-behind.ensures.gathered in
    let at : (c.args.at - 1) + 1 ≡ c.args.at = omega (arith, c.requires.some) in
    ap whole c.splice.ensures
    ∙ replaced_is c.args.parts.now (c.args.at - 1) c.args.end _ _ _ _ c.find_spot-first.ensures c.find_spot-last.ensures c.get.result.now c.get-2.result.now c.get.ensures
    c.get-2.ensures
    c.args.new.now text c.utf8.new _ way c.in_ok-cut.cut (c.in_ok-cut.ensures ∙ c.as_str.ensures.value)
    ∙ ap (λ k. encode_utf8_all (splice (chars (whole c.args.parts.now)) k c.args.end (chars c.args.new.now))) at
