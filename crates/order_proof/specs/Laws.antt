-- Laws of certificates, each for every lawful history.
use Rattle.std.specs.Prelude.{◌≡◌, true, List, ◌++◌, map}
use Rattle.fugue_ids.specs.Identifiers.{Identifier}
use Rattle.fugue_ids.specs.declared.op.Op.{Op}
use Rattle.origin_model.specs.declared.operations.Place.{Place}
use Rattle.origin_model.specs.operations.Verdict.{Lawful}
use Rattle.origin_model.specs.order.Laws.{IsIn, IsPartOf}
use Rattle.origin_model.specs.order.Order.{before}
use Rattle.order_proof.specs.Certificates.{Certificate, Claims, IsValid}
use Rattle.order_proof.specs.Texts.{AllNarrow, proof_text, written_step}

-- what a valid certificate claims of elements of a place holds
abbrev pub ValidMeansBefore : Type 0
ValidMeansBefore =
    (p : Place) (h : List Op) → Lawful h → (x y : Identifier) → IsIn p h x → IsIn p h y
    → (certificate : Certificate) → IsValid h certificate → Claims x y certificate → before p h x y ≡ true

-- the one valid certificate of a claim
pub record HasOne (h : List Op) (x y : Identifier) : Type 0 where
  pub certificate : Certificate
  pub valid : IsValid h certificate
  pub claims : Claims x y certificate
  pub only : (other : Certificate) → IsValid h other → Claims x y other → other ≡ certificate

-- where x stands before y, there is exactly one valid certificate of it
abbrev pub HasOneCertificate : Type 0
HasOneCertificate =
    (p : Place) (h : List Op) → Lawful h → (x y : Identifier) → IsIn p h x → IsIn p h y → before p h x y ≡ true → HasOne h x y

-- a valid certificate stays valid as operations come later
abbrev pub CertificatesStay : Type 0
CertificatesStay = (new h : List Op) → Lawful (new ++ h) → (certificate : Certificate) → IsValid h certificate
    → IsValid (new ++ h) certificate

-- and so it does from a lawful part of a lawful history to the whole
abbrev pub CertificatesOfParts : Type 0
CertificatesOfParts =
    (part whole : List Op) → Lawful part → Lawful whole → IsPartOf part whole
    → (certificate : Certificate) → IsValid part certificate → IsValid whole certificate

-- and back to a lawful part that has the two elements that it speaks of, whichever other operations it lacks
abbrev pub CertificatesInParts : Type 0
CertificatesInParts =
    (p : Place) (part whole : List Op) → Lawful part → Lawful whole → IsPartOf part whole → (x y : Identifier) → IsIn p part x
    → IsIn p part y
    → (certificate : Certificate) → IsValid whole certificate → Claims x y certificate → IsValid part certificate

-- a text tells the certificate, but for the chains that steps by Prefix leave out
abbrev pub ReadsUniquely : Type 0
ReadsUniquely = (c d : Certificate) → AllNarrow c → AllNarrow d → proof_text c ≡ proof_text d → map written_step c ≡ map written_step d

-- valid certificates, of whatever histories, have different texts
abbrev pub ValidReadsUniquely : Type 0
ValidReadsUniquely =
    (h g : List Op) (c d : Certificate) → IsValid h c → IsValid g d → AllNarrow c → AllNarrow d → proof_text c ≡ proof_text d → c ≡ d
