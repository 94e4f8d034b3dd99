pub mod SilencingLaws
