mod OneLemmas
pub mod ScanLaws
