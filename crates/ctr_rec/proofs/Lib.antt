pub mod Laws
pub mod Reading
pub mod Forms
pub mod ListLaws
pub mod RecordForms
pub mod ReadBack
pub mod MemberLaws
pub mod Found
pub mod Listed
pub use Rattle.ctr_bytes.proofs.FieldLaws as bytes_FieldLaws
