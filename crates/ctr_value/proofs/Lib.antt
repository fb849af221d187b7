pub mod PayloadLaws
pub mod PayloadLoops
pub mod ValueLaws
