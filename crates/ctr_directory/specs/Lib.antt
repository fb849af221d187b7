pub mod Keys
pub mod Chains
pub mod Exact
pub use Rattle.ctr_page.specs.Places as page_Places
pub use Rattle.ctr_page.specs.declared.rows.Place as page_Place
