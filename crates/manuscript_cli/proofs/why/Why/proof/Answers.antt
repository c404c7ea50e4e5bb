use Rattle.std.proofs.Common.{subst, sym}
use Rattle.std.proofs.lemmas.List.{reverse-reverse}
use Rattle.origin_model.specs.operations.Verdict.{Lawful}
use Rattle.order_proof.specs.Certificates.{IsOrderedBefore}
use Rattle.manuscript_cli.proofs.WhyLemmas.{places_stand}
use Rattle.manuscript_cli.proofs.why.Why.proof.Goals as goal

pub prove-requires : goal.prove-requires
prove-requires c =
    let h = c.args.replica.now.held.history in
    record {
      before = λ w.
          subst (λ z. IsOrderedBefore z c.args.x c.args.y) (sym (reverse-reverse h))
          (places_stand h c.args.self.now.first c.args.self.now.second c.args.x c.args.y (subst Lawful (reverse-reverse h) w) c.args.self.now.section c.requires);
    }
