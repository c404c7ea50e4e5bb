use Rattle.origin_model.proofs.Words.{Catalogue, Err, List, Ok, [], codes, holder, printed_section, reverse, subst, sym, text, title_of, ℕ, ◌++◌, ◌∙◌, ◌∷◌}
use Rattle.std.specs.Str.{encode_utf8_all}
use Rattle.std.proofs.lemmas.Result.{err_from_is_err_and}
use Rattle.fugue_ids.specs.declared.out.Failed.{Failed}
use Rattle.fugue_ids.proofs.JoinLemmas.{text_stops, text_joins}
use Rattle.fugue_ids.specs.Outs.{WritesBytes}
use Rattle.origin_model.proofs.order.PrintedLemmas.{part-shown, section_joins}
use Rattle.origin_model.proofs.order.printing.write_section.Goals as goal

pub returns-in_err-write_heading : goal.returns-in_err-write_heading
returns-in_err-write_heading g c =
    let h = reverse c.args.ops.now in
    let t = encode_utf8_all (text h c.args.e.now.id) in
    let shown = sym c.is_shown_at.ensures ∙ c.if-not-is_shown_at.false in
    let p = err_from_is_err_and c.from_residual.result c.from_residual.ensures.1 in
    let e = c.in_err-write_heading.field-0.0 in
    let heading = subst (λ (z : List ℕ). WritesBytes {E = Failed} {T = Unit {0}} (g.O.Out.seen c.args.out.now) (g.O.Out.seen c.write_heading.new.out) (Err e)
    (codes "# " ++ z ++ 10 ∷ [])) c.title_in.ensures c.in_err-write_heading.ensures in
    rw p.1 (subst (WritesBytes {E = Failed} {T = Unit {0}} (g.O.Out.seen c.args.out.now) (g.O.Out.seen c.write_heading.new.out) (Err e))
    (section_joins (encode_utf8_all (title_of (holder h c.args.e.now.id))) t ∙ sym (part-shown (printed_section h) h Catalogue c.args.e.now shown))
    (text_stops {T = Unit {0}} {S = Unit {0}} e _ _ _ (t ++ 10 ∷ []) heading))

pub returns-in_err-write_text : goal.returns-in_err-write_text
returns-in_err-write_text g c =
    let h = reverse c.args.ops.now in
    let t = encode_utf8_all (text h c.args.e.now.id) in
    let shown = sym c.is_shown_at.ensures ∙ c.if-not-is_shown_at.false in
    let p = err_from_is_err_and c.from_residual-in_err-write_text.result c.from_residual-in_err-write_text.ensures.1 in
    let e = c.in_err-write_text.field-0.0 in
    let heading = subst (λ (z : List ℕ). WritesBytes {E = Failed} {T = Unit {0}} (g.O.Out.seen c.args.out.now) (g.O.Out.seen c.write_heading.new.out) (Ok tt)
    (codes "# " ++ z ++ 10 ∷ [])) c.title_in.ensures c.in_ok-write_heading.ensures in
    rw p.1 (subst (WritesBytes {E = Failed} {T = Unit {0}} (g.O.Out.seen c.args.out.now) (g.O.Out.seen c.write_text.new.out) (Err e))
    (section_joins (encode_utf8_all (title_of (holder h c.args.e.now.id))) t ∙ sym (part-shown (printed_section h) h Catalogue c.args.e.now shown))
    (text_joins {T = Unit {0}} {S = Unit {0}} tt (Err e) _ _ _ _ (t ++ 10 ∷ []) heading
    (text_stops {T = Unit {0}} {S = Unit {0}} e _ _ _ (10 ∷ []) c.in_err-write_text.ensures)))

pub returns : goal.returns
returns g c =
    let h = reverse c.args.ops.now in
    let t = encode_utf8_all (text h c.args.e.now.id) in
    let shown = sym c.is_shown_at.ensures ∙ c.if-not-is_shown_at.false in
    let heading = subst (λ (z : List ℕ). WritesBytes {E = Failed} {T = Unit {0}} (g.O.Out.seen c.args.out.now) (g.O.Out.seen c.write_heading.new.out) (Ok tt)
    (codes "# " ++ z ++ 10 ∷ [])) c.title_in.ensures c.in_ok-write_heading.ensures in
    subst (WritesBytes {E = Failed} {T = Unit {0}} (g.O.Out.seen c.args.out.now) (g.O.Out.seen c.write_whole.new.out) c.write_whole.result)
    (section_joins (encode_utf8_all (title_of (holder h c.args.e.now.id))) t ∙ sym (part-shown (printed_section h) h Catalogue c.args.e.now shown))
    (text_joins {T = Unit {0}} {S = Unit {0}} tt c.write_whole.result _ _ _ _ (t ++ 10 ∷ []) heading
    (text_joins {T = Unit {0}} {S = Unit {0}} tt c.write_whole.result _ _ _ t (10 ∷ []) c.in_ok-write_text.ensures c.write_whole.ensures))
