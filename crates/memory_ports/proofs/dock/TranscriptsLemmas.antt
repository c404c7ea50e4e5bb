-- The transcript of a session among others.
use Rattle.std.proofs.Common.{inl, inr, ◌≡◌, ℕ, ◌<◌, ◌≤◌, Bool, true, false, List, [], ◌∷◌, ◌++◌, length, get_or, set, refl, ap, sym, subst, ◌∙◌, arith}
use Rattle.std.specs.Prelude.{◌≢◌, Option, Some, None, nat_eq, position, slice_get, option_map, unwrap_or}
use Rattle.std.specs.List.{position_or_len}
use Rattle.std.specs.Option.{option_or}
use Rattle.std.proofs.lemmas.Bool.{eqb-true, eq-eqb, false_from_ne_true, cases_eq}
use Rattle.std.proofs.lemmas.List.Folds.{find_at, find-set, find_past, find-append}
use Rattle.std.proofs.lemmas.List.Quantifiers.{position-Some}
use Rattle.std.proofs.lemmas.Option.{slice_get-get_or, slice_get_past}
use Rattle.std.proofs.lemmas.Grind.{common_steps}
use Rattle.memory_ports.specs.dock.Transcripts.{TranscriptView, log_of, sent_by}

not_same : (a b : ℕ) → a ≢ b → nat_eq a b ≡ false
not_same a b differs = false_from_ne_true (nat_eq a b) (λ is. differs (eqb-true a b is))

abbrev pub sent_in : Option TranscriptView → List ℕ
sent_in transcript = unwrap_or (option_map (λ l. l.bytes) transcript) []

abbrev pub room_in : Option TranscriptView → ℕ
room_in transcript = unwrap_or (option_map (λ l. l.room) transcript) 0

module _ (transcripts : List TranscriptView) (session : ℕ) where
  abbrev is_its : TranscriptView → Bool
  is_its transcript = nat_eq transcript.session session

  module _ (at : ℕ) (transcript : TranscriptView) (found : position is_its transcripts ≡ Some at) (is : transcript ≡ get_or transcripts at transcript) where
    within : at < length transcripts
    within = (position-Some is_its transcripts at transcript found).0

    place : position_or_len is_its transcripts ≡ at
    place = grind (arith, common_steps)

    -- the transcript that stands there is the session's
    pub log_found : log_of transcripts session ≡ Some transcript
    log_found = find_at is_its transcripts ∙ ap (slice_get transcripts) place ∙ slice_get-get_or transcripts at transcript within ∙ ap Some (sym is)

    same_session : transcript.session ≡ session
    same_session = eqb-true transcript.session session (subst (λ l. is_its l ≡ true) (sym is) (position-Some is_its transcripts at transcript found).1)

    module _ (new : TranscriptView) (kept : new.session ≡ transcript.session) where
      -- with another transcript of the session in its place
      pub log_set : log_of (set transcripts at new) session ≡ Some new
      log_set = find-set is_its transcripts at new (sym place) within (eq-eqb new.session session (kept ∙ same_session))

      pub others_set : (s : ℕ) → s ≢ session → log_of (set transcripts at new) s ≡ log_of transcripts s
      others_set s differs =
          let apart : nat_eq session s ≡ false = not_same session s (λ e. differs (sym e)) in
          find_past (λ l. nat_eq l.session s) transcripts at new transcript
          (subst (λ l. nat_eq l.session s ≡ false) is (subst (λ k. nat_eq k s ≡ false) (sym same_session) apart))
          (subst (λ k. nat_eq k s ≡ false) (sym (kept ∙ same_session)) apart)

      -- one with the same bytes
      pub sent_kept : new.bytes ≡ transcript.bytes → (s : ℕ) → sent_by (set transcripts at new) s ≡ sent_by transcripts s
      sent_kept same s = elim (cases_eq s session) [
        | inl it ↦ rw it (ap sent_in log_set ∙ same ∙ ap sent_in (sym log_found))
        | inr other ↦ ap sent_in (others_set s other)
      ]

  -- a session that has no transcript
  pub none_found : position is_its transcripts ≡ None → log_of transcripts session ≡ None
  none_found none =
      let past : length transcripts ≤ position_or_len is_its transcripts = grind (arith, common_steps) in
      find_at is_its transcripts ∙ slice_get_past transcripts (position_or_len is_its transcripts) past

  -- a transcript more
  pub log_more : (new : TranscriptView) → log_of transcripts session ≡ None → new.session ≡ session → log_of (transcripts ++ new ∷ []) session ≡ Some new
  log_more new none is = find-append is_its transcripts (new ∷ []) ∙ rw (none, eq-eqb new.session session is) refl

  pub others_more : (new : TranscriptView) (s : ℕ) → new.session ≡ session → s ≢ session → log_of (transcripts ++ new ∷ []) s ≡ log_of transcripts s
  others_more new s is differs =
      find-append (λ l. nat_eq l.session s) transcripts (new ∷ []) ∙ rw (not_same new.session s (λ e. differs (sym e ∙ is))) (option_or_none (log_of transcripts s))
    where
      option_or_none : (o : Option TranscriptView) → option_or o None ≡ o
      option_or_none None = refl
      option_or_none (Some transcript) = refl

  pub sent_more : (new : TranscriptView) → log_of transcripts session ≡ None → new.session ≡ session → new.bytes ≡ [] → (s : ℕ)
      → sent_by (transcripts ++ new ∷ []) s ≡ sent_by transcripts s
  sent_more new none is empty s = elim (cases_eq s session) [
    | inl it ↦ rw it (ap sent_in (log_more new none is) ∙ empty ∙ ap sent_in (sym none))
    | inr other ↦ ap sent_in (others_more new s is other)
  ]
