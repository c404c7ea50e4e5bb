use Rattle.kept_promises.proofs.CertificateLemmas as checking
use Rattle.kept_promises.proofs.laws.why_passes_check.Goals as goal

pub returns-clause-files : goal.returns-clause-files
returns-clause-files c = checking.certificates_pass

pub returns-clause-later : goal.returns-clause-later
returns-clause-later c = checking.certificates_stay

pub returns-clause-checked : goal.returns-clause-checked
returns-clause-checked c = checking.why_passes_check
