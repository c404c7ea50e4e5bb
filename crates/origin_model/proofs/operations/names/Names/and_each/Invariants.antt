use Rattle.std.specs.Prelude.{◌≡◌, ◌++◌, map, take}
use Rattle.origin_model.specs.declared.operations.Role.TheVariants.{Any}
use Rattle.origin_model.proofs.operations.names.Names.and_each.Given as goal

abbrev pub invariant-each : goal.invariant-each
invariant-each l = l.names ≡ l.fn.self ++ map (λ id. (id, Any)) (take l.id-index l.ids)
