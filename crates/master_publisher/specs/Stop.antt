-- What can stop a publisher, and the refusal that tells it: its number and values are those of document 01's table.
use Rattle.base_types.specs.declared.refusal.Refusal.{Refusal}
use Rattle.base_types.specs.declared.refusal.Refusal.TheVariants as refusals
use Rattle.master_publisher.specs.declared.PublisherStop.{PublisherStop}
use Rattle.master_publisher.specs.declared.PublisherStop.TheVariants.{ImageLength, PageNumber, Loop, Outside, Crc16, ReadBack, NoFreePage}
use Rattle.master_publisher.specs.declared.PublisherStop.TheVariants.{RedirectionProtected, BufferLength, NoPresence, DataProtected}

abbrev pub publisher_refusal : PublisherStop → Refusal
publisher_refusal ImageLength = refusals.ImageLength
publisher_refusal PageNumber = refusals.PageNumber
publisher_refusal Loop = refusals.Loop
publisher_refusal (Outside x) = refusals.Outside x
publisher_refusal Crc16 = refusals.Crc16
publisher_refusal ReadBack = refusals.ReadBack
publisher_refusal NoFreePage = refusals.NoFreePage
publisher_refusal (RedirectionProtected l) = refusals.RedirectionProtected l
publisher_refusal BufferLength = refusals.BufferLength
publisher_refusal NoPresence = refusals.NoPresence
publisher_refusal (DataProtected l) = refusals.DataProtected l
