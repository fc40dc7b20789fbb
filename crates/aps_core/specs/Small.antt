-- The numbers of a partition are small enough to be multiplied.
pub use Rattle.aps_ready.specs.Small.{IsSmall}
