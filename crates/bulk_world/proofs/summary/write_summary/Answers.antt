use Rattle.std.proofs.Common.{◌∙◌}
use Rattle.bulk_world.proofs.summary.write_summary.Goals as goal

pub returns : goal.returns
returns g c =
    rw (
      c.as_bytes.ensures.value ∙ c.format.ensures.text,
      c.as_bytes-2.ensures.value ∙ c.format-2.ensures.text,
      c.as_bytes-3.ensures.value
          ∙ c.format-3.ensures.text,
      c.equality_word.ensures,
    ) at c.write_pieces.ensures
