-- A place, as the machine holds it. Assumes `Logic`.
use Rattle.node_rope.proofs.Words.{◌≡◌, List, [], ◌∷◌, ◌++◌, refl, ap, ◌∙◌, Ura, Val, vstruct, of_list, Logic, Item, Goal, Seq, Step, step, ‵, ◌$◌, drop, fsplit, fjoin, fpick}
use Rattle.node_rope.proofs.Words.{fpack, feq_i, feq_l, RattleType, Valss, Ptr, RawPtr, ptr_val, nothing, within, spot_val}
use denote.Struct.Declared as Declared
use Rattle.node_rope.specs.contracts.pile.Spot as spot

abbrev pub Place : RattleType
Place = spot.the_row

module _ {M : Type 1} {𝓤 : Ura M} {𝓛 : Logic 𝓤} {K : Type 0} {Γ : List (Item 𝓤)} {G : Goal 𝓤 𝓛.H} where
  pub spot_had : K → (d : Place.Denot) (vs : List Val) → (vs ≡ spot_val d.address ∷ [] → Seq K 𝓛 Γ G) → Seq K 𝓛 (‵ (Place.own_val d vs) ∷ Γ) G
  spot_had t d vs k = fpick t (λ vss. fsplit t $ feq_l t (λ e. fsplit t $ feq_l t (λ f. drop t $ k (e ∙ ap (λ (ws : List Val). vstruct (of_list (ws ++ [])) ∷ []) f))))

  pub spot_made : K → (p : Ptr) → Step K 𝓛 (‵ (Place.own_val (record { address = p }) (spot_val p ∷ [])) ∷ Γ) G Γ G
  spot_made t p = step (λ s. nothing t $ feq_i t (List Val) (ptr_val p ∷ []) (ptr_val p ∷ []) refl $ fjoin t $ feq_i t (List Val) (spot_val p ∷ [])
      (spot_val p ∷ []) refl $ fjoin t $
      fpack t (Valss (RawPtr ∷ [])) (within (Declared.shape spot.the_type) (p, tt) (spot_val p ∷ [])) (ptr_val p ∷ [], tt) $ s)
