use Rattle.std.proofs.Common.{ap, arith, subst, sym, ℕ, ◌+◌, ◌-◌, ◌<◌, ◌∙◌, ◌≡◌, ◌≢◌, ◌≤◌}
use Rattle.std.specs.Prelude.{Some, is_some}
use Rattle.std.specs.BTreeMap.{UpdatesBy}
use Rattle.fugue_ids.specs.Identifiers.{Identifier, id_cmp}
use Rattle.fugue_ids.proofs.IdentifierLemmas.{id_at-other}
use Rattle.fugue_ids.specs.Runs.{id_after}
use Rattle.stretch_map.specs.Contents.{StretchEntry}
use Rattle.stretch_map.specs.Stretches.{IsSplit, kept_at, tail_from}
use Rattle.stretch_map.specs.declared.stretches.Stretch.{Stretch}
use Rattle.stretch_map.proofs.TakenLemmas.{cut_by}
use Rattle.stretch_map.proofs.take_out.cut_after.Goals as goal

pub nth-requires-clause-reached : goal.nth-requires-clause-reached
nth-requires-clause-reached g c =
    let kc : c.key.inside.counter ≡ c.args.key.counter = ap (λ (k : Identifier). k.counter) c.key.view_is in
    let fc : c.first.inside.counter ≡ c.args.first.counter = ap (λ (k : Identifier). k.counter) c.first.view_is in
    let from : c.args.first.counter ≤ c.args.key.counter = c.requires.covers.from in
    let inside : c.args.key.counter < c.args.last = c.requires.inside in
    c.requires.reached (c.key.inside.counter - c.first.inside.counter + 1) (omega (arith, kc, fc, from, inside))

pub returns-in-Some-clause-ok : goal.returns-in-Some-clause-ok
returns-in-Some-clause-ok g c =
    let nth = g.V.Follows.nth in
    let old = c.args.kept.now in
    let mid = c.insert.new.self in
    let first : Identifier = c.args.first in
    let key : Identifier = c.args.key in
    let e : StretchEntry g.row.V.Denot = (first, record { value = c.args.value; last = c.args.last }) in
    let from : first.counter ≤ key.counter = c.requires.covers.from in
    let kc : key.counter ≡ c.key.inside.counter = sym (ap (λ (k : Identifier). k.counter) c.key.view_is) in
    let fc : first.counter ≡ c.first.inside.counter = sym (ap (λ (k : Identifier). k.counter) c.first.view_is) in
    let steps : ℕ = key.counter - first.counter + 1 in
    let next : c.key.inside.counter + 1 ≡ first.counter + (key.counter - first.counter + 1) = omega (arith, kc, from) in
    let raw : Identifier = record { replica = c.first.inside.replica; counter = c.key.inside.counter + 1 } in
    let place : raw ≡ id_after first steps = λ i. record { replica = ap (λ (k : Identifier). k.replica) c.first.view_is i; counter = next i } in
    let value_is : c.nth.result ≡ nth first c.args.value steps = c.nth.ensures ∙ (λ i. nth first c.args.value (sym kc i - sym fc i + 1)) in
    let u : UpdatesBy id_cmp (id_cmp (id_after first steps)) old mid (Some (tail_from nth e steps).1) =
    subst (λ k. UpdatesBy id_cmp (id_cmp k) old mid (Some (tail_from nth e steps).1)) place
    (subst (λ v. UpdatesBy id_cmp (id_cmp raw) old mid (Some (record { value = v; last = c.args.last }))) value_is c.in_ok-insert.ensures.updates)
    in
    let apart : first ≢ id_after first steps = λ d. let same : first.counter ≡ first.counter + (key.counter - first.counter + 1) =
    ap (λ (x : Identifier). x.counter) d in absurd (omega arith) in
    let there : kept_at mid.entries first ≡ Some e.1 = u.2 first (id_at-other (id_after first steps) first apart) ∙ c.requires.there in
    let after : Stretch g.row.V.Denot = record { value = c.args.value; last = key.counter } in
    let written = c.get_mut.follows.holds after in
    let lent : Stretch g.row.V.Denot → Type 0 = λ s. IsSplit nth old.entries (c.get_mut.follows.lender s).entries e key in
    subst lent (λ i. record { value = c.args.value; last = kc i })
    (cut_by nth old mid (c.get_mut.follows.lender after) e key c.requires.covers u (written.3 (ap is_some there)) written.4)
