use Rattle.std.proofs.Common.{ap, subst, sym, ◌∙◌}
use Rattle.std.specs.Char.{encode_utf8}
use Rattle.std.specs.Str.{encode_utf8_all}
use Rattle.std.proofs.lemmas.List.{append-nil}
use Rattle.fugue_ids.specs.Gathers.{GathersText}
use Rattle.change_marks.proofs.marking.put_letter.Goals as goal

pub returns-in-Some : goal.returns-in-Some
returns-in-Some g c =
    subst (GathersText {T = Unit {0}} (g.O.Out.seen c.args.output.now) (g.O.Out.seen c.put_scalar.new.out) c.args.gather.now c.put_scalar.new.self c.put_scalar.result)
    (sym (append-nil (encode_utf8 c.in-Some.ch)) ∙ ap encode_utf8_all c.in-Some.ensures) c.put_scalar.ensures

pub returns-in-None : goal.returns-in-None
returns-in-None g c =
    subst (λ t. GathersText {T = Unit {0}} (g.O.Out.seen c.args.output.now) (g.O.Out.seen c.put.new.out) c.args.gather.now c.put.new.self c.put.result (encode_utf8_all t))
    c.in-None.ensures c.put.ensures
