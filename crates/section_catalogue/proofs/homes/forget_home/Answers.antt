use Rattle.std.proofs.Common.{ap, inl}
use Rattle.section_catalogue.proofs.HomeLemmas.{unsettled}
use Rattle.stretch_map.proofs.ResultLemmas.{ok_gives}
use Rattle.section_catalogue.proofs.homes.forget_home.Goals as goal

pub returns : goal.returns
returns c =
    let gone = ok_gives _ c.remove-gone.result (c.remove-gone.ensures.sure (inl c.requires)) c.remove-gone.ensures.ok in
    unsettled c.args.homes.now.values c.remove-gone.new.self.values c.args.id (ap (λ m. m.values) gone)
