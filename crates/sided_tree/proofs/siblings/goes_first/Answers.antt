use Rattle.std.proofs.Common.{sym, ◌∙◌}
use Rattle.fugue_ids.specs.Keys.{ids}
use Rattle.sided_tree.proofs.RankLemmas.{by_order, end_first, end_last}
use Rattle.sided_tree.proofs.siblings.goes_first.Goals as goal

pub returns-in-None-Some : goal.returns-in-None-Some
returns-in-None-Some g c =
    end_first (ids (g.F.OrderOf.listed c.args.order.now)) c.args.here c.args.there c.args.a c.args.b c.in-None-Some.field-0-1 c.in-None-Some.is-0 c.in-None-Some.is-1
    c.requires.there_stands

pub returns-in-Some-None : goal.returns-in-Some-None
returns-in-Some-None g c =
    end_last (ids (g.F.OrderOf.listed c.args.order.now)) c.args.here c.args.there c.args.a c.args.b c.in-Some-None.field-0-0 c.in-Some-None.is-0 c.in-Some-None.is-1
    c.requires.here_stands

pub returns-else-eq : goal.returns-else-eq
returns-else-eq g c =
    by_order (ids (g.F.OrderOf.listed c.args.order.now)) c.args.here c.args.there c.args.a c.args.b c.in-Some-Some.x c.in-Some-Some.y c.earlier.result c.in-Some-Some.is-0
    c.in-Some-Some.is-1
    (sym c.eq.ensures ∙ c.if-eq.false) c.requires.there_stands c.earlier.ensures
