use Rattle.std.proofs.Common.{inl, inr, refl}
use Rattle.order_proof.specs.Texts.{proof_text}
use Rattle.command_kinds.specs.declared.refusal.Refusal.TheVariants.{NoSuchPlaces}
use Rattle.manuscript_cli.proofs.why.WhyReport.write.Goals as goal

pub returns-in_default : goal.returns-in_default
returns-in_default g c = inr (NoSuchPlaces, refl, (refl, (refl, c.in_default.ensures.none refl)), refl)

pub returns : goal.returns
returns g c =
    inl (
      proof_text c.in_ok-proof.proof,
      (
        _,
        _,
        c.in-Some.ensures.some,
        record { proof = c.in_ok-proof.proof; valid = c.in_ok-proof.ensures.valid; claims = c.in_ok-proof.ensures.claims; text_is = refl },
      ),
      c.gone_out.ensures _ _ (proof_text c.in_ok-proof.proof) c.write_proof.ensures,
    )
