use Rattle.std.proofs.Common.{refl}
use Rattle.command_kinds.proofs.refusal.Refusal.row.Goals as goal

pub returns-in-Words : goal.returns-in-Words
returns-in-Words c = rw c.in-Words.is (record { status = refl; words = refl; detail = refl })

pub returns-in-BadFrame : goal.returns-in-BadFrame
returns-in-BadFrame c = rw c.in-BadFrame.is (record { status = refl; words = refl; detail = refl })

pub returns-in-CutShort : goal.returns-in-CutShort
returns-in-CutShort c = rw c.in-CutShort.is (record { status = refl; words = refl; detail = refl })

pub returns-in-BadLine : goal.returns-in-BadLine
returns-in-BadLine c = rw (c.in-BadLine.is, c.into.ensures) (record { status = refl; words = refl; detail = refl })

pub returns-in-NoSectionAtLine : goal.returns-in-NoSectionAtLine
returns-in-NoSectionAtLine c = rw (c.in-NoSectionAtLine.is, c.into-in-NoSectionAtLine.ensures) (record { status = refl; words = refl; detail = refl })

pub returns-in-OutOfRangeAtLine : goal.returns-in-OutOfRangeAtLine
returns-in-OutOfRangeAtLine c = rw (c.in-OutOfRangeAtLine.is, c.into-in-OutOfRangeAtLine.ensures) (record { status = refl; words = refl; detail = refl })

pub returns-in-NotReplica : goal.returns-in-NotReplica
returns-in-NotReplica c = rw c.in-NotReplica.is (record { status = refl; words = refl; detail = refl })

pub returns-in-BadBatch : goal.returns-in-BadBatch
returns-in-BadBatch c = rw (c.in-BadBatch.is, c.into-in-BadBatch.ensures) (record { status = refl; words = refl; detail = refl })

pub returns-in-NotEmpty : goal.returns-in-NotEmpty
returns-in-NotEmpty c = rw c.in-NotEmpty.is (record { status = refl; words = refl; detail = refl })

pub returns-in-TooMany : goal.returns-in-TooMany
returns-in-TooMany c = rw (c.in-TooMany.is, c.into-in-TooMany.ensures) (record { status = refl; words = refl; detail = refl })

pub returns-in-IdsSpent : goal.returns-in-IdsSpent
returns-in-IdsSpent c = rw (c.in-IdsSpent.is, c.into-in-IdsSpent.ensures) (record { status = refl; words = refl; detail = refl })

pub returns-in-TooLong : goal.returns-in-TooLong
returns-in-TooLong c = rw c.in-TooLong.is (record { status = refl; words = refl; detail = refl })

pub returns-in-BatchTooLong : goal.returns-in-BatchTooLong
returns-in-BatchTooLong c = rw c.in-BatchTooLong.is (record { status = refl; words = refl; detail = refl })

pub returns-in-BadReply : goal.returns-in-BadReply
returns-in-BadReply c = rw c.in-BadReply.is (record { status = refl; words = refl; detail = refl })

pub returns-in-RelayRefused : goal.returns-in-RelayRefused
returns-in-RelayRefused c = rw (c.in-RelayRefused.is, c.into-in-RelayRefused.ensures) (record { status = refl; words = refl; detail = refl })

pub returns-in-ReplyCutShort : goal.returns-in-ReplyCutShort
returns-in-ReplyCutShort c = rw c.in-ReplyCutShort.is (record { status = refl; words = refl; detail = refl })

pub returns-in-NoSuchPlaces : goal.returns-in-NoSuchPlaces
returns-in-NoSuchPlaces c = rw c.in-NoSuchPlaces.is (record { status = refl; words = refl; detail = refl })

pub returns-in-NoSection : goal.returns-in-NoSection
returns-in-NoSection c = rw (c.in-NoSection.is, c.into-in-NoSection.ensures) (record { status = refl; words = refl; detail = refl })

pub returns-in-NoPlace : goal.returns-in-NoPlace
returns-in-NoPlace c = rw (c.in-NoPlace.is, c.into-in-NoPlace.ensures) (record { status = refl; words = refl; detail = refl })

pub returns-in-StampsSpent : goal.returns-in-StampsSpent
returns-in-StampsSpent c = rw c.in-StampsSpent.is (record { status = refl; words = refl; detail = refl })

pub returns-in-BaseDiffers : goal.returns-in-BaseDiffers
returns-in-BaseDiffers c = rw c.in-BaseDiffers.is (record { status = refl; words = refl; detail = refl })

pub returns-in-BadDraft : goal.returns-in-BadDraft
returns-in-BadDraft c = rw c.in-BadDraft.is (record { status = refl; words = refl; detail = refl })

pub returns-in-EmptyDraft : goal.returns-in-EmptyDraft
returns-in-EmptyDraft c = rw c.in-EmptyDraft.is (record { status = refl; words = refl; detail = refl })

pub returns-in-NoMoment : goal.returns-in-NoMoment
returns-in-NoMoment c = rw (c.in-NoMoment.is, c.into-in-NoMoment.ensures) (record { status = refl; words = refl; detail = refl })

pub returns-in-OwnSince : goal.returns-in-OwnSince
returns-in-OwnSince c = rw (c.in-OwnSince.is, c.into-in-OwnSince.ensures) (record { status = refl; words = refl; detail = refl })

pub returns-in-OutOfRange : goal.returns-in-OutOfRange
returns-in-OutOfRange c = rw c.in-OutOfRange.is (record { status = refl; words = refl; detail = refl })

pub returns-in-NoVersion : goal.returns-in-NoVersion
returns-in-NoVersion c = rw c.in-NoVersion.is (record { status = refl; words = refl; detail = refl })

pub returns-in-Outside : goal.returns-in-Outside
returns-in-Outside c = rw c.in-Outside.is (record { status = refl; words = refl; detail = refl })

pub returns-in-NoMemory : goal.returns-in-NoMemory
returns-in-NoMemory c = rw c.in-NoMemory.is (record { status = refl; words = refl; detail = refl })
