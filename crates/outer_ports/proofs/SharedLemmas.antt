-- The lemmas that proofs of other crates may cite: on disks, and on objects that tell.
pub use Rattle.outer_ports.proofs.disk.ImagesLemmas.{IsOutside, free_more, honest_at_rest, honest_torn, honest_tried, honest_wrote, image_at_rest, same_byte, same_outside}
pub use Rattle.outer_ports.proofs.disk.ImagesLemmas.{same_tried}
pub use Rattle.outer_ports.proofs.disk.MomentsLemmas.{last_leaves, leaves_joins, leaves_more, leaves_none, leaves_weaker}
pub use Rattle.outer_ports.proofs.TellLemmas.{dial_tells, end_tells, listen_tells, look_tells, read_tells, send_reports, sync_tells, take_tells, wire_read_tells, wire_write_tells}
pub use Rattle.outer_ports.proofs.TellLemmas.{write_at_tells}
