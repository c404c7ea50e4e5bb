use Rattle.std.proofs.Common.{ap, ◌∙◌}
use Rattle.std.specs.Prelude.{Some}
use Rattle.fugue_ids.proofs.IdentifierLemmas.{id_at-other}
use Rattle.catalogue_notes.specs.Winning.{better_candidate}
use Rattle.catalogue_notes.proofs.winning.take_candidate.Goals as goal

pub returns : goal.returns
returns c =
    let u = c.in_ok-insert.ensures.updates in
    record {
      ok = record {
        here = u.1 ∙ ap Some (c.better-best.ensures ∙ ap (better_candidate c.args.candidate) c.get.ensures.value);
        others = λ y d. u.2 y (id_at-other c.args.candidate.section y d);
      };
    }
