pub mod StandsReady
