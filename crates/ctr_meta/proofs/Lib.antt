pub mod XidLaws
pub mod Fits
pub mod ItemLaws
pub mod NeedLaws
pub mod ListingLaws
pub mod ListedFits
pub mod LastLaws
pub use Rattle.ctr_rec.proofs.MemberLaws as rec_MemberLaws
