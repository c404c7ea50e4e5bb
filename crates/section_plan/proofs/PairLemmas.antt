-- Pairs that stay while others come.
use Rattle.std.proofs.Common.{ℕ, ◌+◌, ◌<◌, List, refl, sym, ap, arith, subst, ◌≡◌, ◌⊎◌, inl, inr, ◌∙◌, Some, Option, length}
use Rattle.std.specs.Prelude.{None}
use Rattle.std.proofs.lemmas.Bool.{cases_eq}
use Rattle.section_plan.specs.Completing.{AddsSamePart, HasKeysOfFree, IsCompletedTo, IsSettledPart}
use Rattle.section_plan.specs.Matching.{KeepsPairs, GainsPairs, HadText, IsMatching, HasPartWithText, NoneIsLeft, TextsAreMatched, key_at, part_at, part_of, section_of}
use Rattle.section_plan.specs.declared.keys.Key.{Key}
use Rattle.section_plan.specs.declared.keys.Key.TheVariants.{Text}
use Rattle.section_plan.specs.declared.pairs.Pairs.{Pairs}
use Rattle.section_plan.specs.declared.part.Part.{Part}

-- a section that is free was free before
pub free_before : (sections parts : ℕ) (old new : Pairs) → IsMatching sections parts old → KeepsPairs old new → (i : ℕ) → part_of new i ≡ None → part_of old i ≡ None
free_before sections parts old new m kept i free = by (part_of old i) refl
  where
    by : (o : Option ℕ) → part_of old i ≡ o → part_of old i ≡ None
    by None e = e
    by (Some j) e = let there = (kept.matching sections parts m).inverse i j in let stays = there.0 (kept.stay i j ((m.inverse i j).1 e)) in cc

-- and so was a part
pub part_free_before : (old new : Pairs) → KeepsPairs old new → (j : ℕ) → section_of new j ≡ None → section_of old j ≡ None
part_free_before old new kept j free = by (section_of old j) refl
  where
    by : (o : Option ℕ) → section_of old j ≡ o → section_of old j ≡ None
    by None e = e
    by (Some i) e = let stays = kept.stay i j e in cc

pub kept_both : (a b c : Pairs) → KeepsPairs a b → KeepsPairs b c → KeepsPairs a c
kept_both a b c k l = record { matching = λ sections parts m. l.matching sections parts (k.matching sections parts m); stay = λ i j e. l.stay i j (k.stay i j e) }

-- so the keys of those that are free now are among those of before
pub keys_stay : (sections : List Part) (parts : ℕ) (old new : Pairs) (key : Key) (n : ℕ) → IsMatching (length sections) parts old → KeepsPairs old new
    → (m : _) → HasKeysOfFree old sections key n m → HasKeysOfFree new sections key n m
keys_stay sections parts old new key n matching kept m has i wanted l free =
    has i wanted l (record { within = free.within; free = free_before (length sections) parts old new matching kept i free.free; same = free.same })

-- a part more is done
pub completed_more : (start mid new : Pairs) (sections parts : List Part) (key : Key) (place : ℕ) → IsMatching (length sections) (length parts) start
    → IsCompletedTo start mid sections parts key place → KeepsPairs mid new
    → AddsSamePart mid new sections key place (key_at key parts place) → IsSettledPart new sections key place (part_at parts place)
    → IsCompletedTo start new sections parts key (place + 1)
completed_more start mid new sections parts key place m to kept same done = record {
  grows = record { kept = kept_both start mid new to.grows.kept kept; same = λ i j e. from_mid i j (same i j e) };
  done = λ j l. by j l (cases_eq j place);
}
  where
    from_mid : (i j : ℕ) → (section_of mid j ≡ Some i) ⊎ ((j ≡ place) × (key_at key sections i ≡ key_at key parts place))
        → (section_of start j ≡ Some i) ⊎ (key_at key sections i ≡ key_at key parts j)
    from_mid i j (inl e) = to.grows.same i j e
    from_mid i j (inr e) = inr (e.1 ∙ ap (λ k. key_at key parts k) (sym e.0))

    by : (j : ℕ) → j < place + 1 → (j ≡ place) ⊎ (j ≡ place → ⊥) → IsSettledPart new sections key j (part_at parts j)
    by j l (inl e) = subst (λ k. IsSettledPart new sections key k (part_at parts k)) (sym e) done
    by j l (inr ne) = λ none keyed i free.
        to.done j (omega arith) (part_free_before mid new kept j none) keyed i
        (record {
          within = free.within;
          free = free_before (length sections) (length parts) mid new (to.grows.kept.matching (length sections) (length parts) m) kept i free.free;
          same = free.same;
        })

pub grows_none : (key : Key) (sections parts : List Part) (a : Pairs) → GainsPairs key sections parts a a
grows_none key sections parts a = record { kept = record { matching = λ s p m. m; stay = λ i j e. e }; same = λ i j e. inl e }

pub grows_both : (key : Key) (sections parts : List Part) (a b c : Pairs) → GainsPairs key sections parts a b → GainsPairs key sections parts b c
    → GainsPairs key sections parts a c
grows_both key sections parts a b c g h = record { kept = kept_both a b c g.kept h.kept; same = λ i j e. by i j (h.same i j e) }
  where
    by : (i j : ℕ) → (section_of b j ≡ Some i) ⊎ (key_at key sections i ≡ key_at key parts j) → (section_of a j ≡ Some i) ⊎ (key_at key sections i ≡ key_at key parts j)
    by i j (inl e) = g.same i j e
    by i j (inr e) = inr e

-- where none was paired at first, and then those with the same text, texts are kept by what stays of these pairs
pub texts_kept : (sections parts : List Part) (none mid new : Pairs) → IsMatching (length sections) (length parts) none → ((j : ℕ) → section_of none j ≡ None)
    → GainsPairs Text sections parts none mid
    → NoneIsLeft mid sections parts Text → KeepsPairs mid new → TextsAreMatched new sections parts
texts_kept sections parts none mid new m empty grows done kept i j li lj same keyed = by (part_of mid i) refl (section_of mid j) refl
  where
    mid_matching : IsMatching (length sections) (length parts) mid
    mid_matching = grows.kept.matching (length sections) (length parts) m

    equal : (i k : ℕ) → section_of mid k ≡ Some i → key_at Text sections i ≡ key_at Text parts k
    equal i k e = from (grows.same i k e)
      where
        from : (section_of none k ≡ Some i) ⊎ (key_at Text sections i ≡ key_at Text parts k) → key_at Text sections i ≡ key_at Text parts k
        from (inl f) = let g = empty k in cc
        from (inr f) = f

    by : (o : Option ℕ) → part_of mid i ≡ o → (s : Option ℕ) → section_of mid j ≡ s → HasPartWithText new sections parts i ⊎ HadText new sections parts j
    by (Some k) e s f =
        let pair = (mid_matching.inverse i k).1 e in
        inl (k, ((kept.matching (length sections) (length parts) mid_matching).inverse i k).0 (kept.stay i k pair), sym (equal i k pair))
    by None e (Some k) f = inr (k, kept.stay k j f, equal k j f)
    by None e None f = absurd (done i j li lj e f keyed same)

-- where none is left, none is later
pub left_still : (sections parts : List Part) (old new : Pairs) (key : Key) → IsMatching (length sections) (length parts) old → KeepsPairs old new
    → NoneIsLeft old sections parts key
    → NoneIsLeft new sections parts key
left_still sections parts old new key m kept none i j li lj free_i free_j keyed =
    none i j li lj (free_before (length sections) (length parts) old new m kept i free_i) (part_free_before old new kept j free_j) keyed
