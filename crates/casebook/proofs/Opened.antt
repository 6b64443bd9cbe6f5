-- Every definition that filling and the place call rest on, opened by one name: see crates/filling/proofs/Opened.antt.
unfoldable pub use Rattle.filling.proofs.Opened.{definitions}
