-- The objects of a directory in the order of their numbers, and how many descriptors they have.
unfoldable pub use Rattle.ad_dir_table.specs.Listing.{next_number, descriptor_count}
